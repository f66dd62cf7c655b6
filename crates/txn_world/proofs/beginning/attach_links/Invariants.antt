use Rattle.amqp_resource_session.specs.Session.{below_of}
use Rattle.txn_world.specs.Attaching.{Attaching}
use Rattle.txn_world.proofs.beginning.attach_links.Given as goal

abbrev pub invariant-loop-number : goal.invariant-loop-number
invariant-loop-number g l = Attaching g.S.Tells.told g.G.IdSource.next g.G.IdSource.start (below_of l.fn.session) l.fn.ids l.ids l.session l.entries l.number
