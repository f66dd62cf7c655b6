use Rattle.std.proofs.Common.{◌≡◌, ◌+◌, ◌*◌, ◌++◌}
use Rattle.txn_program_runs.specs.Made.{made_from}
use Rattle.txn_program_runs.proofs.made_steps.append_transactions.Given as goal

-- the steps so far, and then those of the transactions that are left; their numbers and those of their deliveries
abbrev pub invariant-loop-left : goal.invariant-loop-left
invariant-loop-left l = record {
  so_far : l.steps ++ made_from l.left l.number l.delivery ≡ l.fn.steps ++ made_from l.count 1 0;
  number : l.number + l.left ≡ l.count + 1;
  delivery : l.delivery + 3 * l.left ≡ 3 * l.count;
}

abbrev pub decreases-loop-left : goal.decreases-loop-left
decreases-loop-left l = l.left
