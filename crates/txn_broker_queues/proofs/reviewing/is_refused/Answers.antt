use Rattle.std.proofs.Common.{◌∙◌}
use Rattle.txn_broker_queues.proofs.Refusing.{admits-is}
use Rattle.txn_broker_queues.proofs.reviewing.is_refused.Goals as goal

pub returns : goal.returns
returns c =
    c.is_err.ensures.value
    ∙ admits-is _ c.args.transfer.now c.args.count c.queue_of_transfer.result c.queue_of_transfer.ensures
