use Rattle.std.proofs.Common.{rules, ◌<◌, length}
use Rattle.amqp_resource_shared.proofs.Closing.{each-next, read-at}
use Rattle.amqp_resource_shared.proofs.close.first_different.Goals as goal

pub loop-place-preserved : goal.loop-place-preserved
loop-place-preserved c =
    let low : c.loop-place.place < length c.args.receipts.now = search rules in
    let at = read-at c.args.receipts.now c.loop-place.place c.index-receipts-place.result low c.index-receipts-place.is in
    each-next c.args.entries.now c.args.receipts.now c.loop-place.place c.index-receipts-place.result at c.loop-place.invariant c.if-not-is_of_entry.ensures
