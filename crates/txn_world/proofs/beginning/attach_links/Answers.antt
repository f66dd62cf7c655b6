use Rattle.amqp_resource_session.specs.Session.{below_of}
use Rattle.txn_world.proofs.Attached.{attaching_next}
use Rattle.txn_world.proofs.beginning.attach_links.Goals as goal

pub loop-number-preserved : goal.loop-number-preserved
loop-number-preserved g c =
    attaching_next g.S.Tells.told g.S.LayerBelow.sure g.S.LayerBelow.review_gives g.S.LayerBelow.check_gives g.G.IdSource.next g.G.IdSource.start (below_of c.args.session.now) c.args.ids.now c.loop-number.ids c.attach_link.new.ids
    c.loop-number.session c.attach_link.new.session c.loop-number.entries c.attach_link.new.entries c.loop-number.number c.in_ok-attach_link.field-0 c.loop-number.invariant c.in_ok-attach_link.ensures
