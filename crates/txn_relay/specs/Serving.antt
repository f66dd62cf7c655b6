-- What a call of the program answers and leaves.
use Rattle.std.specs.Prelude.{ℕ, ◌≡◌, ◌⊎◌, Option, Some, None, Result, Ok, Err, List, [], ◌∷◌, ◌≤◌, codes, length, IfSome, IsNone, IsOkAnd, if◌then◌else◌}
use Rattle.std.specs.Str.{bytes_eq}
use Rattle.amqp_txn_types.specs.declared.id.TransactionId.{TransactionId}
use Rattle.amqp_below_ids.specs.Listed.{listed}
use Rattle.amqp_below_streams.specs.Streams.{SinkTold, SourceTold}
use Rattle.amqp_resource_record.specs.declared.stop.StopCode.{StopCode}
use Rattle.txn_program_edges.specs.Faults.{fault_status, fault_text}
use Rattle.txn_program_edges.specs.Reading.{Finds}
use Rattle.txn_program_edges.specs.Unserved.{line_text}
use Rattle.txn_program_edges.specs.Words.{id_list_of}
use Rattle.txn_program_edges.specs.Writing.{EndsWith, Wrote}
use Rattle.txn_program_edges.specs.declared.fault.Fault.{Fault}
use Rattle.txn_program_edges.specs.declared.input.Reading.{Reading}
use Rattle.txn_program_edges.specs.declared.input.Reading.TheVariants as readings
use Rattle.txn_program_runs.specs.declared.step_runs.TheConstants.{INPUT_LIMIT}
use Rattle.txn_world.specs.Happening.{code_of_stop}
use Rattle.txn_relay.specs.declared.event.RelayEvent.{RelayEvent}
use Rattle.txn_relay.specs.Relaying.{Draws, Holds, IsReady, Relaying}
use Rattle.txn_relay.specs.Filling.{numbered}
use Rattle.txn_relay.specs.Playing.{HadAll, HadSome}
use Rattle.txn_relay.specs.RelayText.{relay_text}
use Rattle.txn_relay.specs.Scripts.{script_of}
use Rattle.txn_relay.specs.declared.runs.RelayRan.{RelayRan}
use Rattle.txn_relay.specs.declared.script.Script.{Script}

-- `relay` and the ids that declares draw
abbrev pub relay_words : List (List ℕ) → Option (List TransactionId)
relay_words [] = None
relay_words (word ∷ words) = if bytes_eq word (codes "relay") then id_list_of words else None

-- ---- statuses

-- 0 without a stop, 8 with one, which is out of memory below
abbrev pub stop_status : Option StopCode → ℕ
stop_status None = 0
stop_status (Some code) = 8

abbrev pub relay_status : Option Relaying → ℕ
relay_status None = 6
relay_status (Some relay) = stop_status (code_of_stop relay.world.sides.stop)

-- of what the input spells: 3 for a line outside the table
abbrev pub spelled_status : Result Script ℕ → Option Relaying → ℕ
spelled_status (Err line) relay = 3
spelled_status (Ok script) relay = relay_status relay

-- of the input: 4 for a fault of the source, 7 for more octets than the limit
abbrev pub input_status : Reading → Option Relaying → ℕ
input_status readings.Fault relay = 4
input_status readings.TooLong relay = 7
input_status (readings.Whole octets) relay = spelled_status (script_of octets) relay

-- by the words: 2 where they are outside the table
abbrev pub status_of : Option (List TransactionId) → Reading → Option Relaying → ℕ
status_of None reading relay = 2
status_of (Some ids) reading relay = input_status reading relay

-- ---- texts, with how many events were skipped

abbrev pub relay_string : Option Relaying → ℕ → List ℕ
relay_string None skipped = []
relay_string (Some relay) skipped = relay_text relay skipped

abbrev pub spelled_text : Result Script ℕ → Option Relaying → ℕ → List ℕ
spelled_text (Err line) relay skipped = line_text line
spelled_text (Ok script) relay skipped = relay_string relay skipped

abbrev pub input_text : Reading → Option Relaying → ℕ → List ℕ
input_text readings.Fault relay skipped = codes "read fault\n"
input_text readings.TooLong relay skipped = codes "input too long\n"
input_text (readings.Whole octets) relay skipped = spelled_text (script_of octets) relay skipped

abbrev pub written_text : Option (List TransactionId) → Reading → Option Relaying → ℕ → List ℕ
written_text None reading relay skipped = codes "usage\n"
written_text (Some ids) reading relay skipped = input_text reading relay skipped

-- ---- calls

-- a relay of these messages before its first event, with a source of these ids: the messages wait
-- in `from`, numbered from 0
pub record IsStart (draws : Draws) (ids : List TransactionId)
    (payloads : List (List ℕ)) (start : Relaying) : Type 0 where
  pub ready : IsReady start.world start.work
  pub work : start.work ≡ numbered 0 payloads
  pub stream : (n : ℕ) → draws.next start.world.ids n ≡ listed ids n

-- a relay of the messages of a script that had all of its events, once each and in order; or, where
-- memory ran out, some of them
pub record Relayed (draws : Draws) (ids : List TransactionId)
    (script : Script) (status : ℕ) (relay : Relaying) (skipped : ℕ) : Type 0 where
  pub start : Relaying
  pub starts : IsStart draws ids script.messages start
  pub had : HadAll draws start relay script.events skipped
      ⊎ ((status ≡ 6) × HadSome draws start relay script.events)

-- a call, with what the sink tells before and after. Of the relay, `status_by` is the status of the
-- table and `text_by` what is written; `Of` says of which ids and script it is a relay
pub record Runs (draws : Draws) (output written : SinkTold)
    (status_by : Option Relaying → ℕ) (Of : (List TransactionId → Script → Type 0) → Type 0)
    (text_by : Option Relaying → ℕ → List ℕ) (ran : RelayRan) : Type 0 where
  -- the status is that of the table; out of memory or a fault of the sink may come in its place
  pub status : EndsWith output.faults written.faults (status_by ran.relay) ran.status
  pub skipped : ℕ
  pub relayed : IfSome ran.relay
      (λ relay. Of (λ ids script. Relayed draws ids script ran.status relay skipped))
  -- each message is in exactly one of the two queues
  pub holds : IfSome ran.relay Holds
  pub text : Wrote output.written written.written ran.status (text_by ran.relay skipped)

-- this relay had these events, or, where memory ran out, some of them, and what came of it was
-- written
abbrev pub Plays : Draws → SinkTold → SinkTold → Relaying
    → List RelayEvent → RelayRan → Type 0
Plays draws output written start events ran =
    (relay : Relaying) × (skipped : ℕ) × (ran.relay ≡ Some relay) × Holds relay
    × (HadAll draws start relay events skipped
    ⊎ ((ran.status ≡ 6) × HadSome draws start relay events))
    × EndsWith output.faults written.faults (stop_status (code_of_stop relay.world.sides.stop))
    ran.status
    × Wrote output.written written.written ran.status (relay_text relay skipped)

-- a call that makes no relay, with that status and its text
abbrev pub RelaysNothing : Draws → SinkTold → SinkTold → ℕ → List ℕ
    → RelayRan → Type 0
RelaysNothing draws output written status text ran =
    Runs draws output written (λ _. status) (λ _. ⊥) (λ _ _. text) ran × IsNone ran.relay

-- a relay of this script with these ids
abbrev pub RelaysScript : Draws → SinkTold → SinkTold
    → List TransactionId → Script → RelayRan → Type 0
RelaysScript draws output written ids script ran =
    Runs draws output written relay_status (λ P. P ids script) relay_string ran

-- a relay of what the octets of an input spell
abbrev pub RelaysSpelled : Draws → SinkTold → SinkTold
    → List TransactionId → Result Script ℕ → RelayRan → Type 0
RelaysSpelled draws output written ids spelled ran =
    Runs draws output written (spelled_status spelled) (λ P. IsOkAnd spelled (P ids))
    (spelled_text spelled) ran

-- the input was read whole and its lines are a script, and of this the fact holds
abbrev pub IsSpelledBy : Reading → (Script → Type 0) → Type 0
IsSpelledBy readings.Fault Fact = ⊥
IsSpelledBy readings.TooLong Fact = ⊥
IsSpelledBy (readings.Whole octets) Fact = IsOkAnd (script_of octets) Fact

-- a relay of what the reading of the input found
abbrev pub RelaysReading : Draws → SinkTold → SinkTold
    → List TransactionId → Reading → RelayRan → Type 0
RelaysReading draws output written ids reading ran =
    Runs draws output written (input_status reading) (λ P. IsSpelledBy reading (P ids))
    (input_text reading) ran

-- octets that were read are within the limit
abbrev pub IsWithinLimit : Reading → Type 0
IsWithinLimit readings.Fault = Unit {0}
IsWithinLimit readings.TooLong = Unit {0}
IsWithinLimit (readings.Whole octets) = length octets ≤ INPUT_LIMIT

-- the script that the words and the input ask for, with the ids that declares draw
abbrev pub IsRelayOf : Option (List TransactionId) → Reading
    → (List TransactionId → Script → Type 0) → Type 0
IsRelayOf None reading P = ⊥
IsRelayOf (Some ids) reading P = IsSpelledBy reading (P ids)

-- what was read: words outside the table read nothing, all others the input to its end before a
-- relay is made; out of memory may come before the input is read
abbrev pub ReadFor : Option (List TransactionId) → ℕ → Option Relaying → SourceTold → SourceTold
    → Reading → Type 0
ReadFor None status relay before after reading = after ≡ before
ReadFor (Some ids) status relay before after reading =
    Finds INPUT_LIMIT before after reading ⊎ ((status ≡ 6) × IsNone relay)

-- a call for these ids, none for words outside the table, with what the source and the sink tell
-- before and after
pub record ServesRelay (draws : Draws) (ids : Option (List TransactionId))
    (input left : SourceTold) (output written : SinkTold) (ran : RelayRan) : Type 0 where
  pub reading : Reading
  pub read : ReadFor ids ran.status ran.relay input left reading
  pub run : Runs draws output written (status_of ids reading) (IsRelayOf ids reading)
      (written_text ids reading) ran

-- ---- processes

-- without arguments nothing is read, and the status is that of the fault; out of memory or a fault
-- of the sink may come in its place
pub record EndsFaulty (fault : Fault) (input left : SourceTold) (output written : SinkTold)
    (ran : RelayRan) : Type 0 where
  pub read : left ≡ input
  pub status : EndsWith output.faults written.faults (fault_status fault) ran.status
  pub text : Wrote output.written written.written ran.status (fault_text fault)
  pub relay : IsNone ran.relay

-- a process: a call for its arguments, or the end without them
abbrev pub EndsRelay : Draws → Result (List (List ℕ)) Fault → SourceTold
    → SourceTold → SinkTold → SinkTold → RelayRan → Type 0
EndsRelay draws (Ok arguments) input left output written ran =
    ServesRelay draws (relay_words arguments) input left output written ran
EndsRelay draws (Err fault) input left output written ran =
    EndsFaulty fault input left output written ran
