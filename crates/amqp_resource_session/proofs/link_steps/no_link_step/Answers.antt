use Rattle.amqp_resource_session.proofs.Keeping.{here-no_link}
use Rattle.amqp_resource_session.proofs.link_steps.no_link_step.Goals as goal

pub returns-clause-leaves : goal.returns-clause-leaves
returns-clause-leaves c = here-no_link c.args.held.now c.args.link c.args.payload.now _ c.no_draws.ensures c.requires
