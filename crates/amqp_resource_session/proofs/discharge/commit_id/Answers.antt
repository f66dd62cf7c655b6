use Rattle.std.proofs.Common.{◌≡◌, ap, sym, ◌∙◌, refl, true, false}
use Rattle.std.specs.Prelude.{is_some}
use Rattle.amqp_resource_held.specs.Draws.{is_kept}
use Rattle.amqp_resource_session.proofs.Handing.{committed-in}
use Rattle.amqp_resource_session.proofs.Keeping.{same_held}
use Rattle.amqp_resource_held.proofs.Kept.{live_home}
use Rattle.amqp_resource_session.proofs.discharge.commit_id.Goals as goal

pub returns-in_default-clause-answer : goal.returns-in_default-clause-answer
returns-in_default-clause-answer g c =
    let gone : is_kept c.args.held.now.work c.args.id ≡ false = live_home _ ∙ sym (ap is_some c.in_default.ensures) in
    (gone, same_held c.args.held.now, refl)

pub returns-clause-answer : goal.returns-clause-answer
returns-clause-answer g c =
    let live : is_kept c.args.held.now.work c.args.id ≡ true = live_home _ ∙ sym (ap is_some c.in-Some.ensures) in
    committed-in c.args.held.now c.commit_live.new.held _ _ c.args.id _ c.commit_live.result live c.commit_live.ensures.answer
