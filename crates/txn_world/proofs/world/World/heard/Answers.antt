use Rattle.txn_world.proofs.Seen.{they_agree}
use Rattle.txn_world.proofs.world.World.heard.Goals as goal

pub returns-clause-agree : goal.returns-clause-agree
returns-clause-agree g c = they_agree g.S.LayerBelow.sure c.self.inside.session c.self.inside.ids c.self.inside.parties c.args.self.now c.self.view_is c.self.invariant.0
