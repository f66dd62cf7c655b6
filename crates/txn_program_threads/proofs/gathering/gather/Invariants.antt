use Rattle.std.proofs.Common.{◌≡◌, ◌+◌, ◌-◌, ◌≤◌, length, sum_by}
use Rattle.txn_program_threads.specs.Each.{EachFrom}
use Rattle.txn_program_threads.specs.Gathered.{IsGathered, IsWorkOf}
use Rattle.txn_program_threads.proofs.Joining.{AttachOnce}
use Rattle.txn_program_threads.proofs.gathering.gather.Given as goal

abbrev pub invariant-loop-work : goal.invariant-loop-work
invariant-loop-work g l = record {
  some : length l.works.items ≤ l.workers;
  parts : sum_by (λ s. s.parts) l.shares.items + length l.works.items ≡ l.fn.worked.left.parts + l.workers;
  counts : sum_by (λ s. s.count) l.shares.items ≡ length l.receipts.items;
  gathered : IsGathered l.workers l.rounds (l.workers - length l.works.items) l.receipts.items l.done;
  each : EachFrom (λ n w. IsWorkOf n w.number l.rounds w.share.parts w.share.count w.receipts.items w.done) 1 l.works.items;
  once : AttachOnce (length l.works.items) l.receipts.items;
}

abbrev pub decreases-loop-work : goal.decreases-loop-work
decreases-loop-work g l = length l.works.items
