use Rattle.txn_broker_table.proofs.Words.{Faded, NonePasses, SkipsFit, is_waiting, length, marks_of, ◌-◌, ◌≡◌, ◌≤◌}
use Rattle.txn_broker_table.proofs.skips.first_waiting.Given as goal

-- what was passed doesn't wait
abbrev pub invariant-loop-at : goal.invariant-loop-at
invariant-loop-at l = record {
  fit : SkipsFit l.cells;
  marks : marks_of l.cells ≡ marks_of l.initial.cells;
  faded : Faded l.initial.cells l.cells;
  from : l.from ≤ l.at;
  none : NonePasses is_waiting (marks_of l.initial.cells) l.from l.at;
}

abbrev pub decreases-loop-at : goal.decreases-loop-at
decreases-loop-at l = length l.cells - l.at
