use Rattle.std.proofs.Common.{◌≡◌, drop}
use Rattle.amqp_resource_record.specs.Hands.{frames_under}
use Rattle.amqp_resource_record.proofs.answers.has_frame_under.Given as goal

abbrev pub invariant-loop-entry : goal.invariant-loop-entry
invariant-loop-entry l = frames_under l.txn_id (drop l.entry-index l.entries) ≡ frames_under l.txn_id l.entries
