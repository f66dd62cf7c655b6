use Rattle.std.proofs.Common.{Some, ap, length, sym, take, ◌∙◌}
use Rattle.txn_broker_queues.specs.Queues.{queue, queue_found}
use Rattle.txn_broker_queues.specs.Taking.{frames_of}
use Rattle.txn_broker_queues.proofs.Copying.{queue_whole}
use Rattle.txn_broker_queues.proofs.Naming.{found_queue, missing_queue, name_found, name_missing}
use Rattle.txn_broker_queues.proofs.broker.Broker.queue.Goals as goal

pub returns-in_ok-copies-in-Some : goal.returns-in_ok-copies-in-Some
returns-in_ok-copies-in-Some c =
    let lines = c.self.inside.queues in
    let taken = frames_of c.self.inside.journal.items in
    let name = c.args.name.now in
    let st = name_found lines.names name c.in-Some.queue (sym c.in-Some.ensures) in
    ap Some
    (c.in_ok-copies-in-Some.ensures name st.at
    ∙ ap (λ n. take n (queue (frames_of c.as_slice-journal.result.now) name)) c.message_count-count.ensures
    ∙ ap (λ j. take (length lines.marks) (queue (frames_of j) name)) c.as_slice-journal.ensures.value
    ∙ queue_whole taken lines c.in-Some.queue name c.self.invariant.keeps.names c.self.invariant.keeps.mails st.at)
    ∙ found_queue taken lines.names name c.self.invariant.keeps.names st.any
    ∙ ap (λ j. queue_found (frames_of j) name) (ap (λ v. v.journal) c.self.view_is)

pub returns-in-None : goal.returns-in-None
returns-in-None c =
    let lines = c.self.inside.queues in
    missing_queue (frames_of c.self.inside.journal.items) lines.names c.args.name.now c.self.invariant.keeps.names
    (name_missing lines.names c.args.name.now (sym c.in-None.ensures))
    ∙ ap (λ j. queue_found (frames_of j) c.args.name.now) (ap (λ v. v.journal) c.self.view_is)
