use Rattle.std.proofs.Common.{ℕ, subst}
use Rattle.amqp_resource_held.specs.Looks.{Pays}
use Rattle.amqp_resource_held.proofs.Looked.{ends_closed}
use Rattle.amqp_resource_session.proofs.Keeping.{here-closed}
use Rattle.amqp_resource_session.proofs.link_steps.close_step.Goals as goal

pub returns-clause-leaves : goal.returns-clause-leaves
returns-clause-leaves g c =
    let ended = c.end_link.ensures in
    here-closed c.args.held.now c.end_link.new.held c.args.link c.args.payload.now _ c.no_draws.ensures c.requires.message c.requires.opened ended.live ended.links ended.tied ended.opened

pub returns-clause-pays : goal.returns-clause-pays
returns-clause-pays g c =
    subst (λ (n : ℕ). Pays c.args.held.now.work c.end_link.new.held.work c.args.looks.now c.end_link.new.looks n 0)
    (ends_closed c.args.held.now c.args.link c.args.payload.now c.requires.message c.requires.opened) c.end_link.ensures.pays
