use Rattle.std.proofs.Common.{◌≡◌, Some, slice_get, sym, arith}
use Rattle.amqp_resource_shared.proofs.Few.{copy-next}
use Rattle.amqp_resource_shared.proofs.draws.copy_into.Goals as goal

pub loop-place-preserved : goal.loop-place-preserved
loop-place-preserved c =
    let ids = c.args.drawn.now.ids in
    let at : slice_get ids c.loop-place.place ≡ Some c.in-Some.id.now = sym c.in-Some.ensures in
    (copy-next ids c.loop-place.copy.ids c.push.new.self.ids c.loop-place.place c.in-Some.id.now at c.loop-place.invariant.0 c.push.ensures.ids, omega (arith, c.push.ensures.spare, c.loop-place.invariant.1))
