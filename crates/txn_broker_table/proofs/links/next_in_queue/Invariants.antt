use Rattle.txn_broker_table.proofs.Words.{Some, length, marks_of, queue_at, ℕ, ◌≡◌}
use Rattle.txn_broker_table.proofs.Linkage.{Reaches, left_from}
use Rattle.txn_broker_table.proofs.links.next_in_queue.Given as goal

-- no message between waits in the queue
abbrev pub invariant-loop-at : goal.invariant-loop-at
invariant-loop-at l =
    (queue : ℕ) → queue_at (marks_of l.cells) l.number ≡ Some queue → Reaches (marks_of l.cells) queue l.number l.at

abbrev pub decreases-loop-at : goal.decreases-loop-at
decreases-loop-at l = left_from (length l.cells) l.at
