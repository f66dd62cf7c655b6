use Rattle.txn_broker_table.proofs.Words.{length, numbers_in, vec_len, ◌++◌, ◌≡◌, ◌≤◌}
use Rattle.txn_broker_table.proofs.Counting.{Waits, rest_from}
use Rattle.txn_broker_table.proofs.Linkage.{left_from}
use Rattle.txn_broker_table.proofs.table.MessageTable.numbers.Given as goal

-- what is found so far, and what is left
abbrev pub invariant-loop-at : goal.invariant-loop-at
invariant-loop-at l = record {
  so_far : l.numbers.items ++ rest_from l.queue l.self.marks l.at ≡ numbers_in l.queue l.self.marks;
  few : vec_len l.numbers ≤ l.count;
  at : Waits l.queue l.self.marks l.at;
}

abbrev pub decreases-loop-at : goal.decreases-loop-at
decreases-loop-at l = left_from (length l.self.marks) l.at
