-- The lines that show the queues of a broker.
use Rattle.std.specs.Prelude.{ℕ, List, [], ◌∷◌, ◌++◌, codes, decimal, length}
use Rattle.std.specs.List.{flat_map}
use Rattle.amqp_txn_types.specs.declared.performatives.Frame.{Frame}
use Rattle.amqp_resource_record.specs.declared.stop.Driven.{Driven}
use Rattle.txn_broker_queues.specs.declared.message.Message.{Message}
use Rattle.txn_broker_queues.specs.Keeping.{queue_names}
use Rattle.txn_broker_queues.specs.Queues.{queue}
use Rattle.txn_broker_text.specs.Lines.{message_line}
use Rattle.txn_program_report.specs.Report.{line, report_text}

-- the lines of a queue: its name, how many messages wait, and these
abbrev pub queue_text : List ℕ → List Message → List ℕ
queue_text name messages =
    line (codes "queue " ++ name ++ 32 ∷ decimal (length messages)) ++ flat_map message_line messages

-- the lines of the queue of a name
abbrev pub queue_lines : List Frame → List ℕ → List ℕ
queue_lines taken name = queue_text name (queue taken name)

-- the lines of the queues, by first attach
abbrev pub queues_text : List Frame → List ℕ
queues_text taken = flat_map (queue_lines taken) (queue_names taken)

-- the report of a run over a broker: without what was taken, and with the queues
abbrev pub broker_text : List Frame → Driven → List ℕ
broker_text taken driven = report_text driven [] ++ queues_text taken
