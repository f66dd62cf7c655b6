use Rattle.std.proofs.Common.{ap, arith, length, ◌∙◌}
use Rattle.std.specs.BTreeMap.{get}
use Rattle.txn_broker_queues.specs.Keeping.{handle_order}
use Rattle.txn_broker_queues.specs.Queues.{messages}
use Rattle.txn_broker_queues.specs.Taking.{frames_of}
use Rattle.txn_broker_queues.proofs.Linking.{count_kept}
use Rattle.txn_broker_queues.proofs.broker.Broker.message_count.Goals as goal

pub overflow_cast-result : goal.overflow_cast-result
overflow_cast-result c =
    let count = c.message_count.ensures in
    let few = c.self.invariant.keeps.few in
    omega (arith, count, few)

pub returns : goal.returns
returns c =
    c.message_count.ensures
    ∙ count_kept (frames_of c.self.inside.journal.items) (λ h. get handle_order c.self.inside.links h) c.self.inside.queues c.self.invariant.keeps
    ∙ ap (λ j. length (messages (frames_of j))) (ap (λ v. v.journal) c.self.view_is)
