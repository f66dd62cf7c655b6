use Rattle.amqp_resource_log.proofs.Words.{Log, ap, length, sym, ◌∙◌}
use Rattle.amqp_resource_log.proofs.Kept.{length-homes}
use Rattle.amqp_resource_log.proofs.log.ArrivalLog.len.Goals as goal

pub returns : goal.returns
returns c = c.len.ensures.len ∙ sym (length-homes c.self.inside.index.entries) ∙ ap (λ (log : Log). length log.homes) c.self.view_is
