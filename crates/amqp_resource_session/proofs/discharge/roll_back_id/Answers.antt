use Rattle.std.proofs.Common.{◌≡◌, ap, sym, ◌∙◌, refl, true, false}
use Rattle.std.specs.Prelude.{is_some}
use Rattle.amqp_resource_held.specs.Draws.{is_kept}
use Rattle.amqp_resource_session.proofs.Keeping.{same_held}
use Rattle.amqp_resource_held.proofs.Kept.{live_home}
use Rattle.amqp_resource_session.proofs.discharge.roll_back_id.Goals as goal

pub returns-in_default : goal.returns-in_default
returns-in_default g c =
    let gone : is_kept c.args.held.now.work c.args.id ≡ false = live_home _ ∙ sym (ap is_some c.in_default.ensures) in
    (gone, refl, same_held c.args.held.now)

pub returns : goal.returns
returns g c =
    let live : is_kept c.args.held.now.work c.args.id ≡ true = live_home _ ∙ sym (ap is_some c.in-Some.ensures) in
    (live, c.drop_work.ensures.ended)
