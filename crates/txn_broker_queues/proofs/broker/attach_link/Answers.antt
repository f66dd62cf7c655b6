use Rattle.std.proofs.Common.{Some}
use Rattle.amqp_below_layer.proofs.Ordered.{changed-twice, put-back}
use Rattle.txn_broker_queues.proofs.Ordered.{handles_exact}
use Rattle.txn_broker_queues.proofs.broker.attach_link.Goals as goal

pub returns-in-Ok-clause-linked : goal.returns-in-Ok-clause-linked
returns-in-Ok-clause-linked c = (
  c.in-Ok.queue,
  c.in-Ok.ensures.ok,
  changed-twice handles_exact _ _ _ c.args.handle (Some (record { queue = 0; peer = c.args.peer })) (Some (record { queue = c.in-Ok.queue; peer = c.args.peer })) c.in_ok-before.ensures.updates.0 c.put_link.ensures,
)

pub returns-in-Err-clause-unlinked : goal.returns-in-Err-clause-unlinked
returns-in-Err-clause-unlinked c =
    put-back handles_exact _ _ _ c.args.handle (Some (record { queue = 0; peer = c.args.peer })) c.in_ok-before.before c.in_ok-before.ensures.old c.in_ok-before.ensures.updates.0 c.put_link-in-Err.ensures
