-- The text of a relay.
use Rattle.std.specs.Prelude.{ℕ, List, ◌∷◌, ◌++◌, codes, decimal, length}
use Rattle.std.specs.List.{flat_map}
use Rattle.txn_broker_queues.specs.declared.message.Message.{Message}
use Rattle.txn_broker_queues.specs.Queues.{queue}
use Rattle.txn_broker_queues.specs.Taking.{taken_of}
use Rattle.txn_broker_text.specs.Lines.{message_line}
use Rattle.txn_program_parties.specs.StopLine.{stop_text}
use Rattle.txn_program_report.specs.Report.{line}
use Rattle.txn_world.specs.Happening.{code_of_stop}
use Rattle.txn_relay.specs.Moves.{from_name, to_name}
use Rattle.txn_relay.specs.Once.{heard_committed}
use Rattle.txn_relay.specs.Relaying.{Relaying}

-- NAME N, and the lines of its messages
abbrev pub queue_text : List ℕ → List Message → List ℕ
queue_text name messages =
    name ++ line (32 ∷ decimal (length messages)) ++ flat_map message_line messages

-- the two queues, how many transactions heard Committed, how many events were skipped, the stop
unfoldable pub relay_text : Relaying → ℕ → List ℕ
relay_text relay skipped =
    queue_text from_name (queue (taken_of relay.world.below) from_name)
    ++ queue_text to_name (queue (taken_of relay.world.below) to_name)
    ++ line (codes "heard " ++ decimal (heard_committed relay.world.sides))
    ++ line (codes "skipped " ++ decimal skipped)
    ++ line (codes "stop " ++ stop_text (code_of_stop relay.world.sides.stop))
