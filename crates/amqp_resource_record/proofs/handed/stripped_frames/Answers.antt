use Rattle.amqp_resource_record.proofs.Scanning.{stripped_under-more}
use Rattle.amqp_resource_record.proofs.handed.stripped_frames.Goals as goal

pub loop-entry-preserved : goal.loop-entry-preserved
loop-entry-preserved c =
    stripped_under-more c.args.txn_id.now c.args.entries.now c.loop-entry.entry-index c.entry-item.result c.loop-entry.handed _ c.loop-entry-test.true c.entry-item.is c.loop-entry.invariant c.in_ok-add_if_under.ensures
