use Rattle.std.proofs.Common.{◌≡◌, rules}
use Rattle.txn_parties.specs.declared.event.Event.TheVariants as events
use Rattle.txn_world.proofs.Arrivals.{event_says, seen_from}
use Rattle.txn_world.proofs.world.World.event.Goals as goal

pub invariant_of-self-in_default : goal.invariant_of-self-in_default
invariant_of-self-in_default g c =
    let other : c.args.event.now ≡ events.Arrive → ⊥ = search rules in
    let x = event_says g.S.Tells.told g.S.LayerBelow.sure g.G.IdSource.next g.G.IdSource.start c.self.inside.session c.self.inside.ids c.self.inside.parties c.happen.new.self c.args.event.now c.happen.result c.self.invariant.0 c.self.invariant.1 other (c.happen.ensures other) in
    (x.sound, x.serves)

pub returns-in_default : goal.returns-in_default
returns-in_default g c =
    let other : c.args.event.now ≡ events.Arrive → ⊥ = search rules in
    let x = event_says g.S.Tells.told g.S.LayerBelow.sure g.G.IdSource.next g.G.IdSource.start c.self.inside.session c.self.inside.ids c.self.inside.parties c.happen.new.self c.args.event.now c.happen.result c.self.invariant.0 c.self.invariant.1 other (c.happen.ensures other) in
    seen_from _ _ _ _ _ _ _ _ c.self.view_is x.says
