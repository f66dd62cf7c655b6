use Rattle.std.proofs.Common.{arith, subst, sym}
use Rattle.txn_relay.specs.Going.{IsFirst, PutFirst}
use Rattle.txn_relay.specs.Relaying.{Relaying}
use Rattle.txn_relay.proofs.Doing.{put_done, relay_of}
use Rattle.txn_relay.proofs.relay.Relay.put.Goals as goal

pub overflow_add-self : goal.overflow_add-self
overflow_add-self c = let few = c.self.invariant.put_few in omega (arith, few)

pub invariant_of-self-2 : goal.invariant_of-self-2
invariant_of-self-2 c =
    (put_done _ _ c.self.inside.world c.event.new.self c.self.inside.work c.self.inside.made c.self.inside.put c.args.event.now c.in_ok-event.field-0 c.self.invariant
    (subst (λ (r : Relaying). IsFirst r c.args.event.now) (sym c.self.view_is) c.requires) c.in_ok-event.ensures).stands

pub returns-clause-ok : goal.returns-clause-ok
returns-clause-ok c =
    subst (λ (r : Relaying). PutFirst r (relay_of c.event.new.self c.self.inside.work) c.args.event.now) c.self.view_is
    (put_done _ _ c.self.inside.world c.event.new.self c.self.inside.work c.self.inside.made c.self.inside.put c.args.event.now c.in_ok-event.field-0 c.self.invariant
    (subst (λ (r : Relaying). IsFirst r c.args.event.now) (sym c.self.view_is) c.requires) c.in_ok-event.ensures).first
