use Rattle.std.proofs.Common.{None, ap, subst, sym, ◌∙◌}
use Rattle.std.specs.BTreeMap.{get}
use Rattle.amqp_txn_types.specs.declared.performatives.Frame.TheVariants as frames
use Rattle.amqp_below_layer.proofs.Ordered.{changed-at}
use Rattle.txn_broker_queues.specs.Given.{given_back}
use Rattle.txn_broker_queues.specs.Keeping.{Keeps, handle_order}
use Rattle.txn_broker_queues.specs.Taking.{frames_of}
use Rattle.txn_broker_queues.proofs.Answered.{answered_more}
use Rattle.txn_broker_queues.proofs.Kept.{keeps_detach}
use Rattle.txn_broker_queues.proofs.Ordered.{handles_exact}
use Rattle.txn_broker_queues.proofs.Telling.{frames_more}
use Rattle.txn_broker_queues.proofs.broker.Broker.hear_detach.Goals as goal

pub invariant_of-self : goal.invariant_of-self
invariant_of-self c =
    let journal = c.self.inside.journal.items in
    let frame = frames.Detach c.args.detach in
    let same = ap (λ v. v.journal) c.self.view_is ∙ c.in-Ok.ensures.ok.journal in
    record {
      answers =
          answered_more journal c.push_reserved.new.self.items frame c.in-Ok.kept c.self.invariant.answers
          (c.in-Ok.ensures.ok.copy_is ∙ ap (λ j. given_back (frames_of j) frame) (sym same)) c.push_reserved.ensures.items;
      keeps =
          subst (λ fs. Keeps fs (λ handle. get handle_order c.remove-link.new.self handle) c.self.inside.queues)
          (sym (frames_more journal c.push_reserved.new.self.items frame c.in-Ok.kept c.push_reserved.ensures.items))
          (keeps_detach (frames_of journal) c.args.detach (λ handle. get handle_order c.self.inside.links handle) (λ handle. get handle_order c.remove-link.new.self handle) c.self.inside.queues
          (changed-at handles_exact _ _ c.args.detach.handle None c.remove-link.ensures.updates.0) c.self.invariant.keeps);
    }
