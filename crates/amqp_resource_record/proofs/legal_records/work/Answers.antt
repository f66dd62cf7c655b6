use Rattle.std.proofs.Common.{sym, ◌∙◌}
use Rattle.amqp_resource_record.proofs.Prefixes.{work-more, no_work}
use Rattle.amqp_resource_record.proofs.legal_records.work.Goals as goal

pub loop-place-init : goal.loop-place-init
loop-place-init c = c.new-all.ensures ∙ sym no_work

pub loop-place-preserved : goal.loop-place-preserved
loop-place-preserved c =
    work-more c.args.entries.now c.loop-place.place c.index-entries-place.result c.loop-place.all _ _ c.loop-place-test.true c.index-entries-place.is c.loop-place.invariant c.in_ok-handed_by.ensures c.in_ok-add_all.ensures
