use Rattle.amqp_resource_log.proofs.Words.{LetsGo, Live, subst}
use Rattle.amqp_resource_log.proofs.Counting.{lets_go}
use Rattle.amqp_resource_log.proofs.Live.{agrees_ended}
use Rattle.amqp_resource_log.proofs.live_work.LiveWork.drop_all.Goals as goal

pub invariant_of-self : goal.invariant_of-self
invariant_of-self g c = agrees_ended c.args.txn_id.now c.self.inside.log c.drop_all.new.self c.self.invariant c.drop_all.ensures.ended

pub returns : goal.returns
returns g c =
    subst (λ (live : Live). LetsGo live c.drop_all.new.self c.args.txn_id.now c.args.looks.now c.drop_all.new.looks) c.self.view_is
    (lets_go c.args.txn_id.now c.self.inside.log c.drop_all.new.self c.args.looks.now c.drop_all.new.looks c.self.invariant c.drop_all.ensures.ended c.drop_all.ensures.looks)
