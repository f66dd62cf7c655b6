use Rattle.std.proofs.Common.{ap, arith, subst, sym, ◌∙◌, ◌≡◌}
use Rattle.std.specs.BTreeMap.{get}
use Rattle.amqp_txn_types.specs.Counts.{one_more}
use Rattle.amqp_txn_types.specs.declared.performatives.Frame.TheVariants as frames
use Rattle.txn_broker_queues.specs.Keeping.{Keeps, handle_order}
use Rattle.txn_broker_queues.proofs.Admitting.{keeps_admitted}
use Rattle.txn_broker_queues.proofs.Answered.{answered_more}
use Rattle.txn_broker_queues.proofs.Telling.{frames_more, refused_gives, refused_told}
use Rattle.txn_broker_queues.proofs.broker.Broker.hear_transfer.Goals as goal

pub invariant_of-self : goal.invariant_of-self
invariant_of-self c =
    let journal = c.self.inside.journal.items in
    let frame = frames.Transfer c.args.transfer c.args.payload in
    let same : journal ≡ c.args.self.now.journal = ap (λ v. v.journal) c.self.view_is ∙ c.in-Ok.ensures.ok.journal in
    record {
      answers = answered_more journal c.push_reserved.new.self.items frame c.new.result c.self.invariant.answers c.new.ensures c.push_reserved.ensures.items;
      keeps =
          subst (λ fs. Keeps fs (λ handle. get handle_order c.self.inside.links handle) c.push.new.self)
          (sym (frames_more journal c.push_reserved.new.self.items frame c.new.result c.push_reserved.ensures.items))
          (keeps_admitted c.args.self.now journal (λ handle. get handle_order c.self.inside.links handle) c.self.inside.queues same c.self.invariant.keeps c.admit.new.self c.args.transfer c.args.payload c.len.result c.in-Ok.queue c.push.new.self
          c.in-Ok.ensures.ok (omega (arith, c.len.ensures, c.self.inside.journal.ok.0)) c.push.ensures.names c.push.ensures.marks);
    }

pub returns-in-Err-clause-told : goal.returns-in-Err-clause-told
returns-in-Err-clause-told c =
    rw c.refuse.ensures.answer
    (refused_told c.args.self.now c.admit.new.self c.self.inside.journal.items c.refuse.new.refusals c.self.inside.vetoes (frames.Transfer c.args.transfer c.args.payload) c.in-Err.error
    c.in-Err.ensures.counts (c.in-Err.ensures.err c.args.payload).journal (ap (λ v. v.journal) c.self.view_is) (ap (λ v. v.vetoes) c.self.view_is)
    (omega (arith, c.refuse.ensures.later, ap (λ v. v.refusals) c.self.view_is))
    (c.refuse.ensures.counted ∙ ap one_more (ap (λ v. v.refusals) c.self.view_is)))

pub returns-in-Err-clause-gives : goal.returns-in-Err-clause-gives
returns-in-Err-clause-gives c =
    rw c.refuse.ensures.answer
    (refused_gives c.args.self.now c.admit.new.self _ (frames.Transfer c.args.transfer c.args.payload) c.in-Err.error c.in-Err.ensures.counts (c.in-Err.ensures.err c.args.payload)
    (ap (λ v. v.journal) c.self.view_is) (ap (λ v. v.vetoes) c.self.view_is)
    (c.refuse.ensures.counted ∙ ap one_more (ap (λ v. v.refusals) c.self.view_is)))
