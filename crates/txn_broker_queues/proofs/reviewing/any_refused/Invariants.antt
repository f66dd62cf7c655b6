use Rattle.std.proofs.Common.{drop, ◌+◌, ◌≡◌, ◌≤◌}
use Rattle.std.specs.BTreeMap.{get}
use Rattle.txn_broker_queues.specs.Keeping.{handle_order, refused_by}
use Rattle.txn_broker_queues.proofs.reviewing.any_refused.Given as goal

-- what is left to look at decides
abbrev pub invariant-loop-frame : goal.invariant-loop-frame
invariant-loop-frame l = record {
  left : refused_by (λ h. get handle_order l.links h) l.count l.frames ≡ refused_by (λ h. get handle_order l.links h) l.number (drop l.frame-index l.frames);
  bound : l.number ≤ l.count + l.frame-index;
}
