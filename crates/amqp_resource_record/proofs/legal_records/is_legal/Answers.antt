use Rattle.amqp_resource_record.proofs.Whole.{IsLegal-nil}
use Rattle.amqp_resource_record.proofs.Prefixes.{legal-more, illegal-at}
use Rattle.amqp_resource_record.proofs.legal_records.is_legal.Goals as goal

pub loop-place-init : goal.loop-place-init
loop-place-init c = IsLegal-nil

pub returns-then-not-is_entry_after : goal.returns-then-not-is_entry_after
returns-then-not-is_entry_after c =
    illegal-at c.args.entries.now c.loop-place.place c.index-entries-place.result c.is_entry_after.result c.loop-place-test.true c.index-entries-place.is c.is_entry_after.ensures c.if-not-is_entry_after.true

pub loop-place-preserved : goal.loop-place-preserved
loop-place-preserved c =
    legal-more c.args.entries.now c.loop-place.place c.index-entries-place.result c.is_entry_after.result c.loop-place-test.true c.index-entries-place.is c.loop-place.invariant c.is_entry_after.ensures c.if-not-is_entry_after.false
