use Rattle.std.proofs.Common.{ap, subst, sym, ◌∙◌}
use Rattle.std.specs.BTreeMap.{get}
use Rattle.amqp_txn_types.specs.declared.performatives.Frame.TheVariants as frames
use Rattle.txn_broker_queues.specs.Given.{given_back}
use Rattle.txn_broker_queues.specs.Keeping.{Keeps, handle_order}
use Rattle.txn_broker_queues.specs.Taking.{frames_of}
use Rattle.txn_broker_queues.proofs.Answered.{answered_more}
use Rattle.txn_broker_queues.proofs.Kept.{keeps_attach}
use Rattle.txn_broker_queues.proofs.Telling.{frames_more}
use Rattle.txn_broker_queues.proofs.broker.Broker.hear_attach.Goals as goal

pub invariant_of-self-in-Ok-attach_link : goal.invariant_of-self-in-Ok-attach_link
invariant_of-self-in-Ok-attach_link c =
    let journal = c.self.inside.journal.items in
    let frame = frames.Attach c.args.attach in
    let same = ap (λ v. v.journal) c.self.view_is ∙ c.in-Ok.ensures.ok.journal in
    let links = c.in-Ok-attach_link.ensures in
    record {
      answers =
          answered_more journal c.push_reserved.new.self.items frame c.in-Ok.answers.1 c.self.invariant.answers
          (c.in-Ok.ensures.ok.copy_is ∙ ap (λ j. given_back (frames_of j) frame) (sym same)) c.push_reserved.ensures.items;
      keeps =
          subst (λ fs. Keeps fs (λ handle. get handle_order c.attach_link.new.links handle) c.attach_link.new.queues)
          (sym (frames_more journal c.push_reserved.new.self.items frame c.in-Ok.answers.1 c.push_reserved.ensures.items))
          (keeps_attach (frames_of journal) c.args.attach c.in-Some.address.now links.linked.0 (λ handle. get handle_order c.self.inside.links handle) (λ handle. get handle_order c.attach_link.new.links handle) c.self.inside.queues c.attach_link.new.queues
          (sym c.in-Some.ensures) links.linked.2 links.names links.marks links.linked.1 c.self.invariant.keeps);
    }
