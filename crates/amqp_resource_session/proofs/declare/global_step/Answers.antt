use Rattle.amqp_resource_session.proofs.Keeping.{here-global}
use Rattle.amqp_resource_session.proofs.declare.global_step.Goals as goal

pub returns-clause-leaves : goal.returns-clause-leaves
returns-clause-leaves c = here-global c.args.held.now c.args.link c.args.payload.now c.args.global _ c.no_draws.ensures c.requires.message c.requires.opened
