use Rattle.txn_world.proofs.Attached.{world_begins}
use Rattle.txn_world.proofs.world.World.new.Goals as goal

pub invariant_of-result : goal.invariant_of-result
invariant_of-result g c = world_begins _ g.S.LayerBelow.sure _ _ _ _ _ c.attach_links.new.session c.in-Ok.entries c.args.controllers c.in-Ok-new.parties c.in-Ok.ensures.ok c.in-Ok-new.ensures
