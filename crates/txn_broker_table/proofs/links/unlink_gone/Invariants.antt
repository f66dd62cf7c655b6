use Rattle.txn_broker_table.proofs.Words.{Leads, LinksFit, Relinked, Some, length, marks_of, queue_at, ℕ, ◌≡◌}
use Rattle.txn_broker_table.proofs.Linkage.{left_from}
use Rattle.txn_broker_table.proofs.links.unlink_gone.Given as goal

-- the message leads on as it did, over what is gone
abbrev pub invariant-loop-next : goal.invariant-loop-next
invariant-loop-next l = record {
  fit : LinksFit l.cells;
  relinked : Relinked l.initial.cells l.cells;
  leads : (queue : ℕ) → queue_at (marks_of l.initial.cells) l.number ≡ Some queue → Leads (marks_of l.initial.cells) queue l.number l.next;
}

abbrev pub decreases-loop-next : goal.decreases-loop-next
decreases-loop-next l = left_from (length l.cells) l.next
