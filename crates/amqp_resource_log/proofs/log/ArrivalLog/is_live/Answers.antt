use Rattle.amqp_resource_log.proofs.Words.{ap, is_live, ◌∙◌}
use Rattle.amqp_resource_log.proofs.Kept.{opened_here}
use Rattle.amqp_resource_log.proofs.log.ArrivalLog.is_live.Goals as goal

pub returns : goal.returns
returns c = c.contains_key.ensures ∙ opened_here c.self.inside.index.entries c.args.txn_id.now ∙ ap (λ log. is_live log c.args.txn_id.now) c.self.view_is
