use Rattle.amqp_resource_log.proofs.Words.{None}
use Rattle.amqp_resource_log.proofs.Kept.{opened_more}
use Rattle.amqp_resource_log.proofs.log.ArrivalLog.open_id.Goals as goal

pub returns-clause-ok : goal.returns-clause-ok
returns-clause-ok c = opened_more c.open_on.result c.args.self.now.homes c.open_on.new.self.homes c.args.txn_id None c.open_on.ensures.homes
