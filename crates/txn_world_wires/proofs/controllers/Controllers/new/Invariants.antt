use Rattle.std.proofs.Common.{◌≡◌, false, replicate}
use Rattle.txn_world_wires.proofs.controllers.Controllers.new.Given as goal

abbrev pub invariant-loop-link : goal.invariant-loop-link
invariant-loop-link l = l.ended.items ≡ replicate l._link false
