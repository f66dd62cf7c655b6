-- The lines of events of two parties, each by its table. A line has the same words for deliveries,
-- outcomes and payloads as that of a step.
use Rattle.std.specs.Prelude.{ℕ, ◌≡◌, Option, Some, None, Result, Ok, Err, List, codes, if◌then◌else◌}
use Rattle.std.specs.Str.{bytes_eq}
use Rattle.amqp_txn_types.specs.declared.performatives.Frame.{Frame}
use Rattle.txn_parties.specs.declared.event.Event.{Event}
use Rattle.txn_parties.specs.declared.event.Event.TheVariants as events
use Rattle.txn_program_lines.specs.Cutting.{lines_of, words_of}
use Rattle.txn_program_lines.specs.LineWords.{◌>>=◌, optional, outcome_of, payload_of, u32_of}
use Rattle.txn_program_lines.specs.Lines.{alone, deliveries_at, delivery_at, detach_line, disposition_line, disposition_of, flow_line, next, transfer_line, transfer_of, word_at}
use Rattle.txn_program_lines.specs.Numbered.{items_from}
use Rattle.txn_program_lines.specs.declared.numbered_lines.SpellError.{SpellError}
use Rattle.txn_program_lines.specs.declared.numbered_lines.SpellError.TheVariants as spelling

-- N, as an event of the controller or transaction with that number
unfoldable pub numbered_line : (ℕ → Event) → List (List ℕ) → Option Event
numbered_line event words = do
  number ← next u32_of words
  alone number.1 (event number.0)

-- post X H ID SET OUT PAYLOAD
unfoldable pub post_line : List (List ℕ) → Option Event
post_line words = do
  txn ← next u32_of words
  delivery ← delivery_at txn.1
  outcome ← next (optional outcome_of) delivery.1
  payload ← next payload_of outcome.1
  alone payload.1 (events.Post txn.0 (transfer_of delivery.0 None) outcome.0 payload.0)

-- retire X ROLE FIRST LAST BOOL OUT
unfoldable pub retire_line : List (List ℕ) → Option Event
retire_line words = do
  txn ← next u32_of words
  deliveries ← deliveries_at txn.1
  outcome ← next (optional outcome_of) deliveries.1
  alone outcome.1 (events.Retire txn.0 (disposition_of deliveries.0 None) outcome.0)

-- the frame of a plain line, by its first word and the words after it
unfoldable pub plain_frame_of : List ℕ → List (List ℕ) → Option Frame
plain_frame_of kind words =
    if bytes_eq kind (codes "transfer") then transfer_line words
    else if bytes_eq kind (codes "flow") then flow_line words
    else if bytes_eq kind (codes "disposition") then disposition_line words
    else if bytes_eq kind (codes "detach") then detach_line words
    else None

-- plain LINE, with the line of a transfer, flow, disposition or detach
unfoldable pub plain_line : List (List ℕ) → Option Event
plain_line words = do
  kind ← word_at words
  frame ← plain_frame_of kind.0 kind.1
  Some (events.Plain frame)

-- the event of a line, by its first word and the words after it
unfoldable pub event_of_words : List ℕ → List (List ℕ) → Option Event
event_of_words kind words =
    if bytes_eq kind (codes "declare") then numbered_line events.Declare words
    else if bytes_eq kind (codes "post") then post_line words
    else if bytes_eq kind (codes "retire") then retire_line words
    else if bytes_eq kind (codes "commit") then numbered_line events.Commit words
    else if bytes_eq kind (codes "rollback") then numbered_line events.Rollback words
    else if bytes_eq kind (codes "link-end") then numbered_line events.LinkEnd words
    else if bytes_eq kind (codes "plain") then plain_line words
    else if bytes_eq kind (codes "arrive") then alone words events.Arrive
    else if bytes_eq kind (codes "return") then alone words events.Return
    else if bytes_eq kind (codes "cut") then alone words events.Cut
    else None

-- the event that a line spells
unfoldable pub event_of_line : List ℕ → Option Event
event_of_line line = do
  kind ← word_at (words_of line)
  event_of_words kind.0 kind.1

-- the events of the input's lines, or the number, from 1, of the first line that spells none
abbrev pub input_events : List ℕ → Result (List Event) ℕ
input_events octets = items_from event_of_line 1 (lines_of octets)

-- the events that were spelled are these, or the line told is that one, unless memory ran out
abbrev pub SpellsEvents : Result (List Event) SpellError → Result (List Event) ℕ → Type 0
SpellsEvents (Ok events) spelled = spelled ≡ Ok events
SpellsEvents (Err (spelling.Line number)) spelled = spelled ≡ Err number
SpellsEvents (Err spelling.NoMemory) spelled = Unit {0}
