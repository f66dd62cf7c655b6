use Rattle.std.proofs.Common.{◌≡◌, [], ◌∷◌, Ok, arith, subst, sym}
use Rattle.txn_parties.specs.declared.event.Event.TheVariants as events
use Rattle.txn_relay.specs.Going.{Goes}
use Rattle.txn_relay.specs.Moves.{moves}
use Rattle.txn_relay.specs.Relaying.{Relaying}
use Rattle.txn_relay.proofs.Doing.{declare_goes, declare_made, declare_room, relay_of}
use Rattle.txn_relay.proofs.relay.Relay.declare.Goals as goal

pub event-requires : goal.event-requires
event-requires c = λ asked. declare_made c.self.inside.world c.self.inside.work c.self.inside.made c.self.inside.put c.self.invariant
    (subst (λ (r : Relaying). moves r.world.sides r.work ≡ events.Declare 0 ∷ []) (sym c.self.view_is) c.requires)

pub overflow_add-self : goal.overflow_add-self
overflow_add-self c =
    let room = declare_room c.self.inside.world c.self.inside.work c.self.inside.made c.self.inside.put c.self.invariant
    (subst (λ (r : Relaying). moves r.world.sides r.work ≡ events.Declare 0 ∷ []) (sym c.self.view_is) c.requires) in
    omega (arith, room)

pub invariant_of-self-2 : goal.invariant_of-self-2
invariant_of-self-2 c =
    (declare_goes _ _ c.self.inside.world c.event.new.self c.self.inside.work c.self.inside.made c.self.inside.put c.in_ok-happened.happened c.self.invariant
    (subst (λ (r : Relaying). moves r.world.sides r.work ≡ events.Declare 0 ∷ []) (sym c.self.view_is) c.requires) c.in_ok-happened.ensures).1

pub returns : goal.returns
returns c =
    subst (λ (r : Relaying). Goes r (relay_of c.event.new.self c.self.inside.work) (Ok c.in_ok-happened.happened)) c.self.view_is
    (declare_goes _ _ c.self.inside.world c.event.new.self c.self.inside.work c.self.inside.made c.self.inside.put c.in_ok-happened.happened c.self.invariant
    (subst (λ (r : Relaying). moves r.world.sides r.work ≡ events.Declare 0 ∷ []) (sym c.self.view_is) c.requires) c.in_ok-happened.ensures).0
