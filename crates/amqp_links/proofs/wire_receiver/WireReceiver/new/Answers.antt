use Rattle.amqp_links.proofs.Distinct.{distinct-none}
use Rattle.amqp_links.proofs.wire_receiver.WireReceiver.new.Goals as goal

pub invariant_of-result : goal.invariant_of-result
invariant_of-result c = distinct-none
