use Rattle.std.proofs.Common.{map, take, ◌≡◌}
use Rattle.txn_broker_queues.specs.Keeping.{message_at}
use Rattle.txn_broker_queues.specs.Taking.{frames_of}
use Rattle.txn_broker_queues.proofs.copies.copy_messages.Given as goal

abbrev pub invariant-loop-number : goal.invariant-loop-number
invariant-loop-number l = l.copies ≡ map (message_at (frames_of l.taken)) (take l.number-index l.number-items)
