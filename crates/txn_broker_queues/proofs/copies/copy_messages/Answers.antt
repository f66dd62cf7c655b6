use Rattle.std.proofs.Common.{ap, map, ◌∙◌}
use Rattle.std.proofs.lemmas.List.{take_all}
use Rattle.txn_broker_queues.specs.Keeping.{message_at}
use Rattle.txn_broker_queues.specs.Taking.{frames_of}
use Rattle.txn_broker_queues.proofs.Copying.{copies_are, number_within}
use Rattle.txn_broker_queues.proofs.copies.copy_messages.Goals as goal

pub copy_message-requires-clause-within : goal.copy_message-requires-clause-within
copy_message-requires-clause-within c =
    number_within c.args.count c.args.queue c.args.queues.now.marks c.deref-number-items.result.now c.loop-number.number-index
    (c.deref-number-items.ensures.value ∙ c.in_ok-numbers.ensures) c.loop-number-test.true

pub returns : goal.returns
returns c = λ name at.
    copies_are (frames_of c.args.taken.now) c.args.queues.now c.args.queue c.args.count name c.deref-number-items.result.now c.loop-number.copies
    c.requires.names c.requires.stand at (c.deref-number-items.ensures.value ∙ c.in_ok-numbers.ensures)
    (c.loop-number.invariant
    ∙ ap (map (message_at (frames_of c.args.taken.now))) (take_all c.loop-number.number-index c.deref-number-items.result.now c.loop-number-test.false))
