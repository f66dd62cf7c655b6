-- The line that shows a message of a queue.
use Rattle.std.specs.Prelude.{ℕ, List, ◌∷◌, ◌++◌, codes, decimal}
use Rattle.txn_broker_queues.specs.declared.message.Message.{Message}
use Rattle.txn_program_report.specs.Report.{line, payload_word}

-- the line of a message: its number and its octets
abbrev pub message_line : Message → List ℕ
message_line message =
    line (codes "message " ++ decimal message.number ++ 32 ∷ payload_word message.payload)
