use Rattle.amqp_resource_record.proofs.Echoing.{echoes-fit, echoes-unfit, echoes-end}
use Rattle.amqp_resource_record.proofs.answers.are_echoes.Goals as goal

pub loop-entry-preserved : goal.loop-entry-preserved
loop-entry-preserved c =
    echoes-fit c.args.txn_id.now c.args.entries.now c.loop-entry.entry-index c.entry-item.result _ c.loop-entry.rest.now c.in-Some.left.now c.loop-entry-test.true c.entry-item.is c.loop-entry.invariant c.in-Some.ensures

pub returns-in-None : goal.returns-in-None
returns-in-None c =
    echoes-unfit c.args.txn_id.now c.args.entries.now c.loop-entry.entry-index c.entry-item.result _ c.loop-entry.rest.now c.loop-entry-test.true c.entry-item.is c.loop-entry.invariant c.in-None.ensures

pub returns : goal.returns
returns c =
    echoes-end c.args.txn_id.now c.args.entries.now c.loop-entry.entry-index _ c.loop-entry.rest.now c.are_no_echoes.result c.loop-entry-test.false c.loop-entry.invariant c.are_no_echoes.ensures
