use Rattle.std.proofs.Common.{sym, ◌∙◌}
use Rattle.amqp_resource_session.proofs.Keeping.{here-link_end, here-no_end}
use Rattle.amqp_resource_held.proofs.Looked.{pays_none}
use Rattle.amqp_resource_session.proofs.link_steps.link_end_step.Goals as goal

pub returns-then-not-has_link-clause-leaves : goal.returns-then-not-has_link-clause-leaves
returns-then-not-has_link-clause-leaves g c = here-no_end c.args.held.now c.args.link _ c.no_draws.ensures (sym c.has_link.ensures ∙ c.if-not-has_link.true)

pub returns-clause-leaves : goal.returns-clause-leaves
returns-clause-leaves g c =
    let ended = c.end_link.ensures in
    here-link_end c.args.held.now c.end_link.new.held c.args.link _ c.no_draws-2.ensures (sym c.has_link.ensures ∙ c.if-not-has_link.false) ended.live ended.links ended.tied ended.opened

pub returns-then-not-has_link-clause-pays : goal.returns-then-not-has_link-clause-pays
returns-then-not-has_link-clause-pays g c = pays_none _ _ _ _

pub returns-clause-pays : goal.returns-clause-pays
returns-clause-pays g c = c.end_link.ensures.pays
