use Rattle.std.proofs.Common.{◌≡◌, sum_by}
use Rattle.amqp_resource_shared_counts.proofs.share.add_up.Given as goal

abbrev pub invariant-loop-share : goal.invariant-loop-share
invariant-loop-share g l = record {
  parts : l.all.parts ≡ sum_by (λ s. s.parts) l.yielded;
  amount : l.all.amount ≡ sum_by (λ s. s.count) l.yielded;
  held : l.held ≡ l.all.amount;
  total : l.book.total ≡ l.fn.book.total;
}
