use Rattle.amqp_resource_log.proofs.Words.{Log, ap, length, sym, ◌∙◌}
use Rattle.amqp_resource_log.proofs.Kept.{length-homes}
use Rattle.amqp_resource_log.proofs.log.ArrivalLog.is_empty.Goals as goal

pub returns : goal.returns
returns c =
    let long = sym (ap (λ (log : Log). length log.homes) c.self.view_is) ∙ length-homes c.self.inside.index.entries in
    (λ x. long ∙ c.is_empty.ensures.0 x, λ none. c.is_empty.ensures.1 (sym long ∙ none))
