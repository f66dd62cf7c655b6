use Rattle.std.proofs.Common.{ap, arith, inl, inr, refl, ◌∙◌}
use Rattle.std.specs.BTreeMap.{get}
use Rattle.amqp_below_layer.specs.declared.inner_error.SessionInnerError.TheVariants as faults
use Rattle.txn_broker_queues.specs.Keeping.{handle_order}
use Rattle.txn_broker_queues.specs.Taking.{Board}
use Rattle.txn_broker_queues.proofs.Admitting.{admitted, lacking, not_admitted}
use Rattle.txn_broker_queues.proofs.Telling.{err_is}
use Rattle.txn_broker_queues.proofs.broker.Broker.admit.Goals as goal

pub returns-in_err-queue-clause-err : goal.returns-in_err-queue-clause-err
returns-in_err-queue-clause-err c =
    rw (err_is c.from_residual.result c.in_err-queue.field-0.0 c.from_residual.ensures.1)
    (λ payload.
    not_admitted c.args.self.now c.self.inside.journal.items (λ h. get handle_order c.self.inside.links h) c.self.inside.queues (ap (λ v. v.journal) c.self.view_is) c.self.invariant.keeps
    c.args.self.now c.args.transfer.now payload c.message_count-count.result c.in_err-queue.field-0.0 c.message_count-count.ensures c.in_err-queue.ensures refl)

pub returns-in_err-reserve-clause-err : goal.returns-in_err-reserve-clause-err
returns-in_err-reserve-clause-err c =
    rw (err_is c.from_residual-in_err-reserve.result faults.NoMemory c.from_residual-in_err-reserve.ensures.1)
    (λ payload.
    lacking c.args.self.now c.self.inside.journal.items (λ h. get handle_order c.self.inside.links h) c.self.inside.queues (ap (λ v. v.journal) c.self.view_is) c.self.invariant.keeps
    c.reserve.new.self c.args.transfer.now payload c.message_count-count.result c.in_ok-queue.queue faults.NoMemory c.message_count-count.ensures c.in_ok-queue.ensures
    c.in_err-reserve.ensures.journal refl (inl c.in_err-reserve.ensures.lacked))

pub returns-in_err-reserve-2-clause-err : goal.returns-in_err-reserve-2-clause-err
returns-in_err-reserve-2-clause-err c =
    rw (err_is c.from_residual-in_err-reserve-2.result faults.NoMemory c.from_residual-in_err-reserve-2.ensures.1)
    (λ payload.
    lacking c.args.self.now c.self.inside.journal.items (λ h. get handle_order c.self.inside.links h) c.self.inside.queues (ap (λ v. v.journal) c.self.view_is) c.self.invariant.keeps
    _ c.args.transfer.now payload c.message_count-count.result c.in_ok-queue.queue faults.NoMemory c.message_count-count.ensures c.in_ok-queue.ensures
    (ap (λ v. v.journal) c.self-2.view_is ∙ c.in_ok-reserve.ensures.journal) refl
    (inr (omega (arith, c.in_err-reserve-2.ensures.lacked, ap (λ (v : Board). v.message_room) c.self-2.view_is, c.in_ok-reserve.ensures.messages))))

pub returns-clause-ok : goal.returns-clause-ok
returns-clause-ok c =
    admitted c.args.self.now c.self.inside.journal.items (λ h. get handle_order c.self.inside.links h) c.self.inside.queues (ap (λ v. v.journal) c.self.view_is) c.self.invariant.keeps
    _ c.args.transfer.now c.message_count-count.result c.in_ok-queue.queue c.message_count-count.ensures c.in_ok-queue.ensures
    (ap (λ v. v.journal) c.self-2.view_is ∙ c.in_ok-reserve.ensures.journal)
    (omega (arith, c.in_ok-reserve.ensures.ok, ap (λ (v : Board). v.room) c.self-2.view_is))
    (omega (arith, c.in_ok-reserve.ensures.stays, ap (λ (v : Board). v.room) c.self-2.view_is))
    c.in_ok-reserve-2.ensures.room
    (omega (arith, c.in_ok-reserve-2.ensures.stays, ap (λ (v : Board). v.message_room) c.self-2.view_is, c.in_ok-reserve.ensures.messages))
