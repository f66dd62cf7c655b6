use Rattle.amqp_links.specs.contracts.wire_receiver.WireReceiver.{the_view}
use Rattle.amqp_links.proofs.Distinct.{distinct-removed, removes-told}
use Rattle.amqp_links.proofs.wire_receiver.WireReceiverReceiverLink.remove_property.Goals as goal

pub invariant_of-self : goal.invariant_of-self
invariant_of-self c =
    rw c.remove_from.ensures (distinct-removed c.self.inside.properties c.args.key.now
    c.self.invariant)

pub returns-clause-told : goal.returns-clause-told
returns-clause-told c =
    rw (← c.self.view_is) (removes-told (the_view c.self.inside) c.remove_from.new.properties
    c.args.key.now c.self.invariant c.remove_from.ensures)
