use Rattle.std.proofs.Common.{ap, arith, cond, false, sym, true, ◌∙◌, ◌≡◌}
use Rattle.std.specs.BTreeMap.{get}
use Rattle.std.proofs.lemmas.List.Sums.{count_by-le-length}
use Rattle.amqp_txn_types.specs.Counts.{one_more}
use Rattle.amqp_txn_types.specs.Frames.{is_transfer}
use Rattle.txn_broker_queues.specs.Given.{any_refused}
use Rattle.txn_broker_queues.specs.Keeping.{handle_order}
use Rattle.txn_broker_queues.specs.Taking.{frames_of, taken_of, verdict_of}
use Rattle.txn_broker_queues.proofs.Admitting.{review_is}
use Rattle.txn_broker_queues.proofs.Linking.{bare_work}
use Rattle.txn_broker_queues.proofs.broker.BrokerLayerBelow.review.Goals as goal

pub returns-then-any_refused-clause-gives : goal.returns-then-any_refused-clause-gives
returns-then-any_refused-clause-gives c =
    let old = c.args.self.now in
    let found : any_refused (taken_of old) c.args.frames.now ≡ true =
    review_is old c.self.inside.journal.items (λ h. get handle_order c.self.inside.links h) c.self.inside.queues (ap (λ v. v.journal) c.self.view_is) c.self.invariant.keeps
    c.message_count-count.result c.args.frames.now true c.message_count-count.ensures c.requires (rw c.as_slice.ensures at c.if-any_refused.ensures) in
    record {
      verdict_is = sym (ap verdict_of found);
      journal = ap (λ v. v.journal) c.self.view_is;
      refusals = ap (λ v. v.refusals) c.self.view_is;
      vetoes =
          c.saturating_add-self-inside.ensures ∙ ap one_more (ap (λ v. v.vetoes) c.self.view_is)
          ∙ sym (ap (λ b. cond b (one_more old.vetoes) old.vetoes) found);
    }

pub returns-in-Ok-clause-takes : goal.returns-in-Ok-clause-takes
returns-in-Ok-clause-takes c =
    let old = c.args.self.now in
    let none : any_refused (taken_of old) c.args.frames.now ≡ false =
    review_is old c.self.inside.journal.items (λ h. get handle_order c.self.inside.links h) c.self.inside.queues (ap (λ v. v.journal) c.self.view_is) c.self.invariant.keeps
    c.message_count-count.result c.args.frames.now false c.message_count-count.ensures c.requires (rw c.as_slice.ensures at c.if-any_refused.ensures) in
    record {
      work = bare_work c.args.frames.now c.requires;
      unrefused = ap (λ j. any_refused (frames_of j) c.args.frames.now) c.in-Ok.ensures.journal ∙ none;
      room = c.in-Ok.ensures.room;
      message_room = omega (arith, count_by-le-length is_transfer c.args.frames.now, c.in-Ok.ensures.messages);
    }

pub returns-in-Ok-clause-gives : goal.returns-in-Ok-clause-gives
returns-in-Ok-clause-gives c =
    let old = c.args.self.now in
    let none : any_refused (taken_of old) c.args.frames.now ≡ false =
    review_is old c.self.inside.journal.items (λ h. get handle_order c.self.inside.links h) c.self.inside.queues (ap (λ v. v.journal) c.self.view_is) c.self.invariant.keeps
    c.message_count-count.result c.args.frames.now false c.message_count-count.ensures c.requires (rw c.as_slice.ensures at c.if-any_refused.ensures) in
    record {
      verdict_is = sym (ap verdict_of none);
      journal = c.in-Ok.ensures.journal;
      refusals = c.in-Ok.ensures.counts.refusals;
      vetoes = c.in-Ok.ensures.counts.vetoes ∙ sym (ap (λ b. cond b (one_more old.vetoes) old.vetoes) none);
    }

pub returns-in-Err-clause-gives : goal.returns-in-Err-clause-gives
returns-in-Err-clause-gives c =
    let old = c.args.self.now in
    let none : any_refused (taken_of old) c.args.frames.now ≡ false =
    review_is old c.self.inside.journal.items (λ h. get handle_order c.self.inside.links h) c.self.inside.queues (ap (λ v. v.journal) c.self.view_is) c.self.invariant.keeps
    c.message_count-count.result c.args.frames.now false c.message_count-count.ensures c.requires (rw c.as_slice.ensures at c.if-any_refused.ensures) in
    rw c.refuse.ensures.answer (record {
      unrefused = none;
      journal = ap (λ v. v.journal) c.self-2.view_is ∙ c.in-Err.ensures.journal;
      counts = record {
        refusals = c.refuse.ensures.counted ∙ ap one_more (ap (λ v. v.refusals) c.self-2.view_is ∙ c.in-Err.ensures.counts.refusals);
        vetoes = ap (λ v. v.vetoes) c.self-2.view_is ∙ c.in-Err.ensures.counts.vetoes;
      };
    })
