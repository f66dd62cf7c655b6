use Rattle.std.proofs.Common.{◌≡◌, ◌+◌, length}
use Rattle.txn_program_threads.specs.Each.{EachFrom}
use Rattle.txn_program_threads.proofs.starting.make_jobs.Given as goal

abbrev pub invariant-loop-made : goal.invariant-loop-made
invariant-loop-made g l = record {
  left : l.left.parts + l.made ≡ l.workers + 1;
  none : l.left.count ≡ 0;
  count : length l.jobs.items ≡ l.made;
  each : EachFrom (λ n j. (j.number ≡ n) × (j.share.parts ≡ 1) × (j.share.count ≡ 0)) 1 l.jobs.items;
}
