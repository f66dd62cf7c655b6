use Rattle.txn_world.proofs.Seen.{entries_are}
use Rattle.txn_world.proofs.world.World.entries.Goals as goal

pub returns : goal.returns
returns g c = entries_are g.S.LayerBelow.sure c.self.inside.session c.self.inside.ids c.self.inside.parties c.args.self.now c.self.view_is c.self.invariant.0
