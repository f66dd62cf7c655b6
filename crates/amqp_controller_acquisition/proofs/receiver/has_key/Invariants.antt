use Rattle.std.proofs.Common.{◌≡◌, drop}
use Rattle.amqp_controller_acquisition.specs.Receivers.{has_key}
use Rattle.amqp_controller_acquisition.proofs.receiver.has_key.Given as goal

-- none of the pairs so far has the key
abbrev pub invariant-loop-index : goal.invariant-loop-index
invariant-loop-index l = has_key l.key (drop l.index l.fields) ≡ has_key l.key l.fields
