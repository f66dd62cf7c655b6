use Rattle.std.proofs.Common.{◌≡◌, map, take}
use Rattle.amqp_txn_types.specs.Frames.{stripped}
use Rattle.amqp_resource_record.specs.Hands.{frames_under}
use Rattle.amqp_resource_record.proofs.handed.stripped_frames.Given as goal

abbrev pub invariant-loop-entry : goal.invariant-loop-entry
invariant-loop-entry l = l.handed ≡ map stripped (frames_under l.txn_id (take l.entry-index l.entries))
