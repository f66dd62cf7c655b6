use Rattle.std.proofs.Common.{◌≡◌, take}
use Rattle.amqp_txn_types.proofs.fields.copied.Given as goal

abbrev pub invariant-loop-index : goal.invariant-loop-index
invariant-loop-index l = l.copy ≡ take l.index l.map.entries
