use Rattle.amqp_resource_session.proofs.Leaving.{leaves-here}
use Rattle.amqp_resource_held.proofs.Looked.{pays_adds, pays_none}
use Rattle.amqp_resource_session.proofs.dispatch.control_step.Goals as goal

pub returns-then-not-has_link-clause-leaves : goal.returns-then-not-has_link-clause-leaves
returns-then-not-has_link-clause-leaves g c = leaves-here _ _ _ _ _ _ _ _ _ c.no_link_step.ensures.leaves

pub returns-in-Err-clause-leaves : goal.returns-in-Err-clause-leaves
returns-in-Err-clause-leaves g c = leaves-here _ _ _ _ _ _ _ _ _ c.close_step.ensures.leaves

pub returns-in-Ok-Declare-Some-clause-leaves : goal.returns-in-Ok-Declare-Some-clause-leaves
returns-in-Ok-Declare-Some-clause-leaves g c = leaves-here _ _ _ _ _ _ _ _ _ c.global_step.ensures.leaves

pub returns-in-Ok-Declare-None-clause-leaves : goal.returns-in-Ok-Declare-None-clause-leaves
returns-in-Ok-Declare-None-clause-leaves g c = leaves-here _ _ _ _ _ _ _ _ _ c.declare_step.ensures.leaves

pub returns-then-not-has_link-clause-pays : goal.returns-then-not-has_link-clause-pays
returns-then-not-has_link-clause-pays g c = pays_none _ _ _ _

pub returns-in-Ok-Declare-Some-clause-pays : goal.returns-in-Ok-Declare-Some-clause-pays
returns-in-Ok-Declare-Some-clause-pays g c = pays_none _ _ _ _

pub returns-in-Ok-Declare-None-clause-pays : goal.returns-in-Ok-Declare-None-clause-pays
returns-in-Ok-Declare-None-clause-pays g c = pays_adds _ _ _ _ _ c.declare_step.ensures.counts
