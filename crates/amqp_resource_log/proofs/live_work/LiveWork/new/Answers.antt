use Rattle.amqp_resource_log.proofs.Live.{agrees_new}
use Rattle.amqp_resource_log.proofs.live_work.LiveWork.new.Goals as goal

pub invariant_of-result : goal.invariant_of-result
invariant_of-result c = agrees_new c.new.result c.new.ensures.homes c.new.ensures.cells
