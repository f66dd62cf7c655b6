use Rattle.amqp_resource_log.proofs.Words.{LiveId, ap, option_map, same_id, sym, ◌∙◌}
use Rattle.amqp_resource_log.proofs.Kept.{lookup-homes}
use Rattle.amqp_resource_log.proofs.index.home_of.Goals as goal

pub returns-in-Some : goal.returns-in-Some
returns-in-Some c = ap (option_map (λ (one : LiveId). one.home)) c.in-Some.ensures.value ∙ sym (lookup-homes (same_id c.args.id) c.args.index.now.entries)

pub returns-in-None : goal.returns-in-None
returns-in-None c = ap (option_map (λ (one : LiveId). one.home)) c.in-None.ensures.value ∙ sym (lookup-homes (same_id c.args.id) c.args.index.now.entries)
