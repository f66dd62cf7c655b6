use Rattle.std.proofs.Common.{List, [], ap, subst, sym, ◌++◌, ◌∙◌, ◌∷◌}
use Rattle.std.specs.BTreeMap.{get}
use Rattle.amqp_txn_types.specs.declared.small.Handle.{Handle}
use Rattle.amqp_txn_types.specs.declared.performatives.Frame.{Frame}
use Rattle.amqp_txn_types.specs.declared.performatives.Frame.TheVariants as frames
use Rattle.txn_broker_queues.specs.Keeping.{Keeps, handle_order}
use Rattle.txn_broker_queues.specs.Taking.{frames_of}
use Rattle.txn_broker_queues.proofs.Answered.{answered_more}
use Rattle.txn_broker_queues.proofs.Kept.{keeps_disposition}
use Rattle.txn_broker_queues.proofs.Telling.{frames_more}
use Rattle.txn_broker_queues.proofs.broker.Broker.hear_disposition.Goals as goal

pub invariant_of-self-2 : goal.invariant_of-self-2
invariant_of-self-2 c =
    let journal = c.self.inside.journal.items in
    let link = λ (handle : Handle). get handle_order c.self.inside.links handle in
    let frame = frames.Disposition c.args.disposition in
    let grown = c.push_reserved.ensures.items ∙ ap (λ (j : List (Frame × List Frame)). j ++ (frame, c.new.result) ∷ []) c.reserve.ensures.items in
    record {
      answers = answered_more journal c.push_reserved.new.self.items frame c.new.result c.self.invariant.answers c.new.ensures grown;
      keeps =
          subst (λ fs. Keeps fs link c.remove_covered.new.self) (sym (frames_more journal c.push_reserved.new.self.items frame c.new.result grown))
          (keeps_disposition (frames_of journal) c.args.disposition link c.self.inside.queues c.remove_covered.new.self c.remove_covered.ensures.names c.remove_covered.ensures.fades c.self.invariant.keeps);
    }
