-- The lines of a relay's input: messages first, and then events.
use Rattle.std.specs.Prelude.{ℕ, ◌≡◌, Option, Some, None, Result, Ok, Err, List, [], ◌∷◌, ◌++◌, codes, if◌then◌else◌}
use Rattle.std.specs.Str.{bytes_eq}
use Rattle.txn_program_lines.specs.Cutting.{lines_of, words_of}
use Rattle.txn_program_lines.specs.LineWords.{◌>>=◌, payload_of}
use Rattle.txn_program_lines.specs.Lines.{alone, next, word_at}
use Rattle.txn_program_lines.specs.Numbered.{lines_after}
use Rattle.txn_program_lines.specs.declared.numbered_lines.SpellError.{SpellError}
use Rattle.txn_program_lines.specs.declared.numbered_lines.SpellError.TheVariants as spelling
use Rattle.txn_relay.specs.declared.event.RelayEvent.{RelayEvent}
use Rattle.txn_relay.specs.declared.event.RelayEvent.TheVariants as relay_events
use Rattle.txn_relay.specs.declared.script.Line.{Line}
use Rattle.txn_relay.specs.declared.script.Line.TheVariants as kinds
use Rattle.txn_relay.specs.declared.script.Script.{Script}

-- message PAYLOAD
unfoldable pub message_line : List (List ℕ) → Option Line
message_line words = do
  payload ← next payload_of words
  alone payload.1 (kinds.Message payload.0)

-- the meaning of a line, by its first word and the words after it
unfoldable pub line_of_words : List ℕ → List (List ℕ) → Option Line
line_of_words kind words =
    if bytes_eq kind (codes "message") then message_line words
    else if bytes_eq kind (codes "go") then alone words (kinds.Event relay_events.Go)
    else if bytes_eq kind (codes "arrive") then alone words (kinds.Event relay_events.Arrive)
    else if bytes_eq kind (codes "return") then alone words (kinds.Event relay_events.Return)
    else if bytes_eq kind (codes "cut") then alone words (kinds.Event relay_events.Cut)
    else None

-- the meaning of a line
unfoldable pub line_of : List ℕ → Option Line
line_of line = do
  kind ← word_at (words_of line)
  line_of_words kind.0 kind.1

-- no messages and no events
abbrev pub no_script : Script
no_script = record { messages = []; events = [] }

-- with a message more, which no event may precede
abbrev pub with_message : Script → List ℕ → List RelayEvent → Option Script
with_message script payload [] =
    Some (record script { messages = script.messages ++ payload ∷ [] })
with_message script payload (event ∷ events) = None

-- with what a line means
abbrev pub with_line : Script → Line → Option Script
with_line script (kinds.Message payload) = with_message script payload script.events
with_line script (kinds.Event event) =
    Some (record script { events = script.events ++ event ∷ [] })

abbrev pub script_after : Script → List ℕ → Option Script
script_after script line = line_of line >>= with_line script

-- the messages and the events of the input's lines, or the number, from 1, of the first line that
-- is outside the table, or a message after an event
abbrev pub script_of : List ℕ → Result Script ℕ
script_of octets = lines_after script_after no_script 1 (lines_of octets)

-- the script that was spelled is this one, or the line told is that one, unless memory ran out
abbrev pub SpellsScript : Result Script SpellError → Result Script ℕ → Type 0
SpellsScript (Ok script) spelled = spelled ≡ Ok script
SpellsScript (Err (spelling.Line number)) spelled = spelled ≡ Err number
SpellsScript (Err spelling.NoMemory) spelled = Unit {0}
