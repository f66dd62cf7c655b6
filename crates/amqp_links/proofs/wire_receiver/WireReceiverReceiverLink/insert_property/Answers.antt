use Rattle.amqp_links.proofs.Distinct.{distinct-inserted}
use Rattle.amqp_links.proofs.wire_receiver.WireReceiverReceiverLink.insert_property.Goals as goal

pub invariant_of-self : goal.invariant_of-self
invariant_of-self c =
    rw c.insert_into.ensures (distinct-inserted c.self.inside.properties c.args.key c.args.value
    c.insert_into.result c.self.invariant)
