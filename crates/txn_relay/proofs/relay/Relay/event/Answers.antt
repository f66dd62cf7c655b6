use Rattle.txn_relay.specs.declared.event.RelayEvent.TheVariants as relay_events
use Rattle.txn_relay.proofs.Doing.{did_arrive, did_cut, did_return, go_says, says}
use Rattle.txn_relay.proofs.relay.Relay.event.Goals as goal

pub invariant_of-self : goal.invariant_of-self
invariant_of-self c = (did_arrive _ _ c.self.inside.world c.event.new.self c.self.inside.work c.self.inside.made c.self.inside.put c.event.result c.self.invariant c.event.ensures).stands

pub invariant_of-self-in-Return : goal.invariant_of-self-in-Return
invariant_of-self-in-Return c = (did_return _ _ c.self-in-Return.inside.world c.event-in-Return.new.self c.self-in-Return.inside.work c.self-in-Return.inside.made c.self-in-Return.inside.put c.event-in-Return.result c.self-in-Return.invariant c.event-in-Return.ensures).stands

pub invariant_of-self-in-Cut : goal.invariant_of-self-in-Cut
invariant_of-self-in-Cut c = (did_cut _ _ c.self-in-Cut.inside.world c.event-in-Cut.new.self c.self-in-Cut.inside.work c.self-in-Cut.inside.made c.self-in-Cut.inside.put c.event-in-Cut.result c.self-in-Cut.invariant c.event-in-Cut.ensures).stands

pub returns-in-Go : goal.returns-in-Go
returns-in-Go c = go_says _ c.args.self.now c.go-result.new.self c.args.event c.go-result.result c.in-Go.is c.go-result.ensures c.world-world.ensures.holds

pub returns-in-Arrive : goal.returns-in-Arrive
returns-in-Arrive c =
    let d = did_arrive _ _ c.self.inside.world c.event.new.self c.self.inside.work c.self.inside.made c.self.inside.put c.event.result c.self.invariant c.event.ensures in
    says _ c.args.self.now c.self.inside.world c.event.new.self c.self.inside.work c.self.inside.made c.self.inside.put c.args.event relay_events.Arrive c.event.result c.self.view_is c.in-Arrive.is d.happens d.err d.stands

pub returns-in-Return : goal.returns-in-Return
returns-in-Return c =
    let d = did_return _ _ c.self-in-Return.inside.world c.event-in-Return.new.self c.self-in-Return.inside.work c.self-in-Return.inside.made c.self-in-Return.inside.put c.event-in-Return.result c.self-in-Return.invariant c.event-in-Return.ensures in
    says _ c.args.self.now c.self-in-Return.inside.world c.event-in-Return.new.self c.self-in-Return.inside.work c.self-in-Return.inside.made c.self-in-Return.inside.put c.args.event relay_events.Return c.event-in-Return.result c.self-in-Return.view_is c.in-Return.is d.happens d.err d.stands

pub returns-in-Cut : goal.returns-in-Cut
returns-in-Cut c =
    let d = did_cut _ _ c.self-in-Cut.inside.world c.event-in-Cut.new.self c.self-in-Cut.inside.work c.self-in-Cut.inside.made c.self-in-Cut.inside.put c.event-in-Cut.result c.self-in-Cut.invariant c.event-in-Cut.ensures in
    says _ c.args.self.now c.self-in-Cut.inside.world c.event-in-Cut.new.self c.self-in-Cut.inside.work c.self-in-Cut.inside.made c.self-in-Cut.inside.put c.args.event relay_events.Cut c.event-in-Cut.result c.self-in-Cut.view_is c.in-Cut.is d.happens d.err d.stands
