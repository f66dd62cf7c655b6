use Rattle.std.proofs.Common.{◌≡◌, [], ◌∷◌, ◌++◌, ◌+◌, List, ap, subst, sym, ◌∙◌}
use Rattle.txn_broker_queues.specs.declared.message.Message.{Message}
use Rattle.txn_relay.specs.Filling.{Filled}
use Rattle.txn_relay.proofs.Filled.{filled_more, numbered_take}
use Rattle.txn_relay.proofs.filling.filled_broker.Goals as goal

-- no message yet
pub loop-number-init : goal.loop-number-init
loop-number-init c = record { filled = rw c.new-messages.ensures c.in_ok-broker.ensures; messages_are = c.new-messages.ensures }

-- one message more
pub loop-number-preserved : goal.loop-number-preserved
loop-number-preserved c =
    let grown : c.append.new.self ≡ c.loop-number.messages ++ record { number = c.loop-number.number; payload = c.index-payloads-number.result } ∷ [] =
    c.in_ok-append.ensures.ok ∙ ap (λ p. c.loop-number.messages ++ record { number = c.loop-number.number; payload = p } ∷ []) c.in_ok-try_clone.ensures.copy in
    record {
      filled = subst (λ (l : List Message). Filled c.send.new.broker l (c.loop-number.number + 1)) (sym grown)
          (filled_more c.loop-number.broker c.send.new.broker c.loop-number.messages c.loop-number.number c.index-payloads-number.result c.loop-number.invariant.filled c.in_ok-send.ensures);
      messages_are =
          grown ∙ ap (λ (l : List Message). l ++ record { number = c.loop-number.number; payload = c.index-payloads-number.result } ∷ []) c.loop-number.invariant.messages_are
          ∙ numbered_take c.args.payloads.now c.loop-number.number c.index-payloads-number.result c.loop-number-test.true c.index-payloads-number.is;
    }
