use Rattle.std.proofs.Common.{refl}
use Rattle.amqp_resource_session.proofs.Keeping.{here-end}
use Rattle.amqp_resource_session.proofs.Leaving.{leaves-here, local_error, remote_error}
use Rattle.amqp_resource_held.proofs.Looked.{pays_adds, pays_none}
use Rattle.amqp_resource_session.proofs.dispatch.take_step.Goals as goal

pub returns-in-Frame-clause-leaves : goal.returns-in-Frame-clause-leaves
returns-in-Frame-clause-leaves g c = rw c.in-Frame.is c.frame_step.ensures.leaves

pub returns-in-Control-clause-leaves : goal.returns-in-Control-clause-leaves
returns-in-Control-clause-leaves g c = rw c.in-Control.is c.control_step.ensures.leaves

pub returns-in-LinkEnd-clause-leaves : goal.returns-in-LinkEnd-clause-leaves
returns-in-LinkEnd-clause-leaves g c = rw c.in-LinkEnd.is (leaves-here _ _ _ _ _ _ _ _ _ c.link_end_step.ensures.leaves)

pub returns-in-LocalEnd-clause-leaves : goal.returns-in-LocalEnd-clause-leaves
returns-in-LocalEnd-clause-leaves g c = rw c.in-LocalEnd.is (leaves-here _ _ _ _ _ _ _ _ _ (here-end c.args.held.now _ _ _ _ c.end_locally.ensures refl (local_error _) refl))

pub returns-in-RemoteEnd-clause-leaves : goal.returns-in-RemoteEnd-clause-leaves
returns-in-RemoteEnd-clause-leaves g c = rw c.in-RemoteEnd.is (leaves-here _ _ _ _ _ _ _ _ _ (here-end c.args.held.now _ _ _ _ c.end_remotely.ensures refl (remote_error _) refl))

pub returns-in-ConnectionStop-clause-leaves : goal.returns-in-ConnectionStop-clause-leaves
returns-in-ConnectionStop-clause-leaves g c = rw c.in-ConnectionStop.is (leaves-here _ _ _ _ _ _ _ _ _ (here-end c.args.held.now _ _ _ _ c.end_with_connection.ensures refl refl refl))

pub returns-in-Frame-clause-pays : goal.returns-in-Frame-clause-pays
returns-in-Frame-clause-pays g c = rw c.in-Frame.is (pays_adds _ _ _ _ _ c.frame_step.ensures.counts)

pub returns-in-Control-clause-pays : goal.returns-in-Control-clause-pays
returns-in-Control-clause-pays g c = rw c.in-Control.is c.control_step.ensures.pays

pub returns-in-LinkEnd-clause-pays : goal.returns-in-LinkEnd-clause-pays
returns-in-LinkEnd-clause-pays g c = rw c.in-LinkEnd.is c.link_end_step.ensures.pays

pub returns-in-LocalEnd-clause-pays : goal.returns-in-LocalEnd-clause-pays
returns-in-LocalEnd-clause-pays g c = pays_none _ _ _ _

pub returns-in-RemoteEnd-clause-pays : goal.returns-in-RemoteEnd-clause-pays
returns-in-RemoteEnd-clause-pays g c = pays_none _ _ _ _

pub returns-in-ConnectionStop-clause-pays : goal.returns-in-ConnectionStop-clause-pays
returns-in-ConnectionStop-clause-pays g c = pays_none _ _ _ _
