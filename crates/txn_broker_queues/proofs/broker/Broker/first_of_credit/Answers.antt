use Rattle.std.proofs.Common.{Some, ap, inr, refl, subst, sym, ◌∙◌, ◌≡◌}
use Rattle.std.specs.BTreeMap.{get}
use Rattle.amqp_below_layer.specs.declared.inner_error.SessionInnerError.TheVariants as faults
use Rattle.amqp_txn_types.specs.declared.small.Handle.{Handle}
use Rattle.amqp_txn_types.specs.declared.performatives.Frame.TheVariants as frames
use Rattle.txn_broker_queues.specs.Given.{given_back}
use Rattle.txn_broker_queues.specs.Keeping.{Keeps, Lines, handle_order}
use Rattle.txn_broker_queues.specs.Taking.{frames_of, taken_of}
use Rattle.txn_broker_queues.proofs.Replying.{flow_brings, flow_fits}
use Rattle.txn_broker_queues.proofs.Telling.{err_is}
use Rattle.txn_broker_queues.proofs.broker.Broker.first_of_credit.Goals as goal

pub shorten-requires : goal.shorten-requires
shorten-requires c =
    let found : get handle_order c.self.inside.links c.in-Some.handle ≡ Some c.in-Some-copied.link = cc in
    record { queue = c.self.invariant.keeps.within c.in-Some.handle c.in-Some-copied.link found }

pub copy_messages-requires-clause-queue : goal.copy_messages-requires-clause-queue
copy_messages-requires-clause-queue c =
    let found : get handle_order c.self.inside.links c.in-Some.handle ≡ Some c.in-Some-copied.link = cc in
    rw c.shorten.ensures (c.self.invariant.keeps.within c.in-Some.handle c.in-Some-copied.link found)

pub returns-in_err-copies-clause-err : goal.returns-in_err-copies-clause-err
returns-in_err-copies-clause-err c =
    let found : get handle_order c.self.inside.links c.in-Some.handle ≡ Some c.in-Some-copied.link = cc in
    let same = ap (λ v. v.journal) c.self.view_is in
    rw (err_is c.from_residual.result faults.NoMemory c.from_residual.ensures.1)
    (record {
      journal = same;
      why = inr (
        flow_fits (taken_of c.args.self.now) (λ h. get handle_order c.self.inside.links h) c.self.inside.queues
            (subst (λ j. Keeps (frames_of j) (λ h. get handle_order c.self.inside.links h) c.self.inside.queues) same c.self.invariant.keeps)
            c.args.flow.now c.in-Some.handle c.in-Some-copied.link c.in-Some.is found,
        refl,
        tt,
      );
    })

pub returns-in_err-answer_credit-clause-err : goal.returns-in_err-answer_credit-clause-err
returns-in_err-answer_credit-clause-err c =
    let found : get handle_order c.self.inside.links c.in-Some.handle ≡ Some c.in-Some-copied.link = cc in
    let same = ap (λ v. v.journal) c.self.view_is in
    rw (err_is c.from_residual-in_err-answer_credit.result faults.NoMemory c.from_residual-in_err-answer_credit.ensures.1)
    (record {
      journal = same;
      why = inr (
        flow_fits (taken_of c.args.self.now) (λ h. get handle_order c.self.inside.links h) c.self.inside.queues
            (subst (λ j. Keeps (frames_of j) (λ h. get handle_order c.self.inside.links h) c.self.inside.queues) same c.self.invariant.keeps)
            c.args.flow.now c.in-Some.handle c.in-Some-copied.link c.in-Some.is found,
        refl,
        tt,
      );
    })

pub returns-clause-ok : goal.returns-clause-ok
returns-clause-ok c =
    let found : get handle_order c.self.inside.links c.in-Some.handle ≡ Some c.in-Some-copied.link = cc in
    let same = ap (λ v. v.journal) c.self.view_is in
    let J = c.as_slice-journal.result.now in
    let link = λ (h : Handle). get handle_order c.self.inside.links h in
    c.in_ok-answer_credit.ensures
    ∙ flow_brings (frames_of J) link c.shorten.new.self
    (subst (λ (l : Lines). Keeps (frames_of J) link l) (sym c.shorten.ensures) (subst (λ j. Keeps (frames_of j) link c.self.inside.queues) (sym c.as_slice-journal.ensures.value) c.self.invariant.keeps))
    c.args.flow.now c.in-Some.handle c.in-Some-copied.link c.in-Some-link_credit.credit c.in_ok-copies.copies c.in-Some.is found c.in-Some-link_credit.is
    (sym c.is_sender.ensures ∙ c.if-is_sender.false) c.in_ok-copies.ensures
    ∙ ap (λ j. given_back (frames_of j) (frames.Flow c.args.flow.now)) (c.as_slice-journal.ensures.value ∙ same)

pub returns-clause-unrefused : goal.returns-clause-unrefused
returns-clause-unrefused c =
    let found : get handle_order c.self.inside.links c.in-Some.handle ≡ Some c.in-Some-copied.link = cc in
    let same = ap (λ v. v.journal) c.self.view_is in
    flow_fits (taken_of c.args.self.now) (λ h. get handle_order c.self.inside.links h) c.self.inside.queues
    (subst (λ j. Keeps (frames_of j) (λ h. get handle_order c.self.inside.links h) c.self.inside.queues) same c.self.invariant.keeps)
    c.args.flow.now c.in-Some.handle c.in-Some-copied.link c.in-Some.is found
