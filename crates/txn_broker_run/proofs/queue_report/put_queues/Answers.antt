use Rattle.std.proofs.Common.{ap, sym, ◌++◌, ◌∙◌, ◌≡◌}
use Rattle.std.specs.Prelude.{string_bytes}
use Rattle.std.proofs.lemmas.Option.{none-some, same_Some}
use Rattle.txn_broker_queues.specs.Keeping.{queue_names}
use Rattle.txn_broker_queues.specs.Queues.{queue}
use Rattle.txn_broker_queues.specs.Taking.{taken_of}
use Rattle.txn_broker_run.specs.Reporting.{queue_lines, queue_text}
use Rattle.txn_broker_run.proofs.Lines.{lines_more}
use Rattle.txn_broker_run.proofs.Taken.{named_found}
use Rattle.txn_broker_run.proofs.queue_report.put_queues.Goals as goal

pub unreachable-requires-in_default-2 : goal.unreachable-requires-in_default-2
unreachable-requires-in_default-2 c =
    let taken = taken_of c.args.broker.now in
    none-some (queue taken c.in-Some.name.now)
    (sym c.in_default-2.is ∙ c.in_ok-messages.ensures ∙ named_found taken c.loop-index.index c.in-Some.name.now (sym c.in-Some.ensures))

pub loop-index-preserved : goal.loop-index-preserved
loop-index-preserved c =
    let taken = taken_of c.args.broker.now in
    let name = c.in-Some.name.now in
    let here = sym c.in-Some.ensures in
    let found : c.in-Some-2.messages ≡ queue taken name =
    same_Some c.in-Some-2.messages (queue taken name) (sym c.in-Some-2.is ∙ c.in_ok-messages.ensures ∙ named_found taken c.loop-index.index name here) in
    lines_more (queue_lines taken) (string_bytes c.args.out.now) (string_bytes c.loop-index.out) (string_bytes c.put_queue.new.out) (queue_names taken) c.loop-index.index name here c.loop-index.invariant
    (c.in_ok-put_queue.ensures ∙ ap (λ messages. string_bytes c.loop-index.out ++ queue_text name messages) (c.as_slice.ensures ∙ found))
