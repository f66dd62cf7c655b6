use Rattle.txn_broker_table.proofs.Words.{Faded, Removes, SkipsFit, length, marks_of, min, ◌-◌, ◌≤◌}
use Rattle.txn_broker_table.proofs.skips.remove_range.Given as goal

-- all before the place is removed
abbrev pub invariant-loop-at : goal.invariant-loop-at
invariant-loop-at l = record {
  fit : SkipsFit l.cells;
  faded : Faded l.fn.cells l.cells;
  from : l.from ≤ l.at;
  removes : Removes l.from (min l.to l.at) (marks_of l.fn.cells) (marks_of l.cells);
}

abbrev pub decreases-loop-at : goal.decreases-loop-at
decreases-loop-at l = length l.cells - l.at
