use Rattle.amqp_resource_log.proofs.Kept.{taken_out}
use Rattle.amqp_resource_log.proofs.index.take_id.Goals as goal

pub returns-in-Some-clause-without : goal.returns-in-Some-clause-without
returns-in-Some-clause-without c = taken_out c.args.id.now c.args.index.now.entries c.swap_remove.new.self.entries c.swap_remove.result c.swap_remove.ensures.updates.0 c.swap_remove.ensures.unique c.swap_remove.ensures.value c.swap_remove.ensures.len

pub returns-in-None-clause-without : goal.returns-in-None-clause-without
returns-in-None-clause-without c = taken_out c.args.id.now c.args.index.now.entries c.swap_remove.new.self.entries c.swap_remove.result c.swap_remove.ensures.updates.0 c.swap_remove.ensures.unique c.swap_remove.ensures.value c.swap_remove.ensures.len
