-- What a call of `agree` answers and leaves.
use Rattle.std.specs.Prelude.{ℕ, ◌≡◌, ◌≤◌, ◌⊎◌, false, Option, Some, None, Result, Ok, Err, List, [], ◌∷◌, codes, length, take, IsNone, IsOkAnd}
use Rattle.amqp_txn_types.specs.Frames.{txn}
use Rattle.amqp_txn_types.specs.Growing.{grown}
use Rattle.amqp_txn_types.specs.declared.id.TransactionId.{TransactionId}
use Rattle.amqp_txn_types.specs.declared.performatives.Frame.{Frame}
use Rattle.amqp_below_layer.specs.Told.{Fixed, Told}
use Rattle.amqp_below_layer.specs.declared.inner_error.SessionInnerError.{SessionInnerError}
use Rattle.amqp_below_ids.specs.Ids.{AreNext}
use Rattle.amqp_below_ids.specs.Listed.{listed}
use Rattle.amqp_below_recorder.specs.declared.recorder.Recorder.{Recorder}
use Rattle.amqp_below_streams.specs.Streams.{SinkTold, SourceTold}
use Rattle.amqp_resource_record.specs.Entries.{steps_of}
use Rattle.amqp_resource_record.specs.Live.{is_live}
use Rattle.amqp_resource_record.specs.Opened.{opens}
use Rattle.amqp_resource_record.specs.Stops.{fault_code}
use Rattle.amqp_resource_record.specs.declared.entry.Entry.{Entry}
use Rattle.amqp_resource_record.specs.declared.stop.StopCode.{StopCode}
use Rattle.amqp_resource_record.specs.declared.stop.StopCode.TheVariants as stop_codes
use Rattle.txn_parties.specs.Agreement.{Agreement}
use Rattle.txn_parties.specs.Exchange.{Begins, Exchange, record_of}
use Rattle.txn_parties.specs.declared.event.Event.{Event}
use Rattle.txn_parties.specs.declared.event.Happened.{Happened}
use Rattle.txn_parties.specs.declared.item.Item.{Item}
use Rattle.txn_parties.specs.declared.item.Item.TheVariants as items
use Rattle.txn_program_agree_lines.specs.EventLines.{input_events}
use Rattle.txn_program_edges.specs.Reading.{Finds}
use Rattle.txn_program_edges.specs.Unserved.{line_text}
use Rattle.txn_program_edges.specs.Writing.{EndsWith, Wrote}
use Rattle.txn_program_edges.specs.declared.input.Reading.{Reading}
use Rattle.txn_program_edges.specs.declared.input.Reading.TheVariants as readings
use Rattle.txn_program_runs.specs.Completing.{NoneRose}
use Rattle.txn_program_runs.specs.Running.{taken_of, told_under}
use Rattle.txn_program_runs.specs.declared.step_runs.Ran.{Ran}
use Rattle.txn_program_runs.specs.declared.step_runs.TheConstants.{INPUT_LIMIT}
use Rattle.txn_world.specs.Beginning.{RefusedOnly, attach_steps}
use Rattle.txn_world.specs.Happening.{TwoParties, code_of_stop}
use Rattle.txn_world.specs.declared.errors.WorldError.TheVariants as world_errors
use Rattle.txn_program_agree.specs.AgreeText.{agree_text, refused_text}
use Rattle.txn_program_agree.specs.Playing.{Played, PlayedOn}
use Rattle.txn_program_parties.specs.Skipping.{events_of, skipped_in}
use Rattle.txn_program_agree.specs.declared.agree_words.AgreeCommand.{AgreeCommand}

-- what a call came to: no two parties were made; the attach of a control link was refused; two
-- parties were reached, and so many events skipped
pub data Came : Type 0 where
  Unmade : Came
  Unattached : SessionInnerError → Came
  Reached : Exchange → ℕ → Came

-- ---- statuses and texts

-- 0 without a stop, 8 where the layer below ran out of memory, else 1
abbrev pub stop_status : Option StopCode → ℕ
stop_status None = 0
stop_status (Some stop_codes.BelowNoMemory) = 8
stop_status (Some code) = 1

abbrev pub came_status : Came → ℕ
came_status Unmade = 6
came_status (Unattached error) = stop_status (Some (fault_code error))
came_status (Reached exchange skipped) = stop_status (code_of_stop exchange.stop)

abbrev pub came_text : Told → Came → List ℕ
came_text below Unmade = []
came_text below (Unattached error) = refused_text error
came_text below (Reached exchange skipped) = agree_text exchange skipped (taken_of below)

-- of what the input spells: 3 for a line outside the table
abbrev pub spelled_status : Result (List Event) ℕ → Came → ℕ
spelled_status (Err line) came = 3
spelled_status (Ok events) came = came_status came

abbrev pub spelled_text : Result (List Event) ℕ → Told → Came → List ℕ
spelled_text (Err line) below came = line_text line
spelled_text (Ok events) below came = came_text below came

-- of the input: 4 for a fault of the source, 7 for more octets than the limit
abbrev pub input_status : Reading → Came → ℕ
input_status readings.Fault came = 4
input_status readings.TooLong came = 7
input_status (readings.Whole octets) came = spelled_status (input_events octets) came

abbrev pub input_text : Reading → Told → Came → List ℕ
input_text readings.Fault below came = codes "read fault\n"
input_text readings.TooLong below came = codes "input too long\n"
input_text (readings.Whole octets) below came = spelled_text (input_events octets) below came

-- by the words: 2 where they are outside the table
abbrev pub agree_status : Option AgreeCommand → Reading → Came → ℕ
agree_status None reading came = 2
agree_status (Some command) reading came = input_status reading came

abbrev pub written_text : Option AgreeCommand → Reading → Told → Came → List ℕ
written_text None reading below came = codes "usage\n"
written_text (Some command) reading below came = input_text reading below came

-- ---- what a call leaves

-- octets that were read are within the limit
abbrev pub IsWithinLimit : Reading → Type 0
IsWithinLimit readings.Fault = Unit {0}
IsWithinLimit readings.TooLong = Unit {0}
IsWithinLimit (readings.Whole octets) = length octets ≤ INPUT_LIMIT

-- the input was read whole and each of its lines is an event, and of these events the fact holds
abbrev pub IsSpelledBy : Reading → (List Event → Type 0) → Type 0
IsSpelledBy readings.Fault Fact = ⊥
IsSpelledBy readings.TooLong Fact = ⊥
IsSpelledBy (readings.Whole octets) Fact = IsOkAnd (input_events octets) Fact

-- all of the events were played, or, where memory ran out, the first of them
abbrev pub ArePlayed : ℕ → List Event → List Event → Type 0
ArePlayed status events these =
    (these ≡ events) ⊎ ((status ≡ 6) × (these ≡ take (length these) events))

-- two parties with so many controllers that the events of the input reached: from the attaches of
-- the control links, turn by turn, with the ids of the words. The layer below, which told `old` and
-- tells `new` and isn't sure to take what it accepted in a review, took what was drawn on, and the
-- two sides agree
pub record Reaches (old new : Told) (ids : ℕ → TransactionId) (controllers : ℕ)
    (events : List Event) (status : ℕ) (exchange : Exchange) (skipped : ℕ) : Type 0 where
  pub first : List Entry
  pub begins : Begins first
  pub attaches : steps_of first ≡ attach_steps controllers
  pub past : List (Event × Happened)
  pub these : ArePlayed status events (events_of past)
  pub skips : skipped ≡ skipped_in past
  pub drawn : List TransactionId
  pub drew : AreNext ids 0 drawn
  pub played : Played old new false first exchange past drawn
  pub opened : new.opened ≡ grown old.opened (opens (record_of exchange))
  pub agree : Agreement exchange

-- what is left by what the call came to: without two parties nothing was taken, and where an attach
-- was refused that is the one refusal, and the refusals rose. `Of` says which events were spelled
abbrev pub Leaves : Told → Told → (ℕ → TransactionId) → ℕ → ((List Event → Type 0) → Type 0)
    → Came → ℕ → Option (List Entry) → Type 0
Leaves old new ids controllers Of Unmade status entries =
    (entries ≡ None) × (new.taken ≡ old.taken)
Leaves old new ids controllers Of (Unattached error) status entries =
    (entries ≡ None) × (new.taken ≡ old.taken)
    × RefusedOnly old new controllers (world_errors.AttachRefused error)
    × Of (λ events. Unit {0})
Leaves old new ids controllers Of (Reached exchange skipped) status entries =
    (entries ≡ Some (record_of exchange))
    × Of (λ events. Reaches old new ids controllers events status exchange skipped)

-- the session stopped at a frame that arrived under an id that isn't live
pub record StopsAtDead (exchange : Exchange) : Type 0 where
  pub frame : Frame
  pub id : TransactionId
  pub rest : List Item
  pub waits : exchange.waiting ≡ items.Frame frame ∷ rest
  pub under : txn frame ≡ Some id
  pub dead : is_live (record_of exchange) id ≡ false

-- how a call ends during which the layer below counted no refusal: 0 without a stop, 1 where a
-- frame arrived under an id that isn't live, or out of memory
abbrev pub CameEnds : Came → ℕ → Type 0
CameEnds Unmade status = status ≡ 6
CameEnds (Unattached error) status = ⊥
CameEnds (Reached exchange skipped) status =
    (status ≡ 6)
    ⊎ (((status ≡ 0) × (exchange.stop ≡ None)) ⊎ ((status ≡ 1) × StopsAtDead exchange))

abbrev pub SpelledEnds : Result (List Event) ℕ → Came → ℕ → Type 0
SpelledEnds (Err line) came status = (status ≡ 6) ⊎ (status ≡ 3)
SpelledEnds (Ok events) came status = CameEnds came status

abbrev pub InputEnds : Reading → Came → ℕ → Type 0
InputEnds readings.Fault came status = (status ≡ 6) ⊎ (status ≡ 4)
InputEnds readings.TooLong came status = (status ≡ 6) ⊎ (status ≡ 7)
InputEnds (readings.Whole octets) came status = SpelledEnds (input_events octets) came status

abbrev pub Completes : Option AgreeCommand → Reading → Came → ℕ → Type 0
Completes None reading came status = (status ≡ 6) ⊎ (status ≡ 2)
Completes (Some command) reading came status = InputEnds reading came status

-- ---- the call

-- a call over a layer that told `old` and tells `new`, with what the sink tells before and after,
-- and its status and entries. Of what it came to, `status_by` is the status of the table and
-- `text_by` what is written; `Of` says which events were spelled, and `Ends` how it ends where
-- nothing is refused
pub record Agrees (output written : SinkTold) (old new : Told) (ids : ℕ → TransactionId)
    (controllers : ℕ) (status_by : Came → ℕ)
    (Of : (List Event → Type 0) → Type 0) (Ends : Came → ℕ → Type 0)
    (text_by : Told → Came → List ℕ) (status : ℕ) (entries : Option (List Entry)) : Type 0 where
  pub came : Came
  -- the status is that of the table; out of memory or a fault of the sink may come in its place
  pub by_table : EndsWith output.faults written.faults (status_by came) status
  -- what is written is the text of the two parties, or that of the status
  pub text : Wrote output.written written.written status (text_by new came)
  pub leaves : Leaves old new ids controllers Of came status entries
  -- without a refusal below, and without a fault of the sink
  pub completes : NoneRose old.refusals new.refusals →
      NoneRose output.faults written.faults → Ends came status

-- the same over this recorder by its own plans; these and its state stay
pub record AgreesAsPlanned {S : Type 0} (output written : SinkTold) (told : Recorder S → Told)
    (below : Recorder S) (ids : ℕ → TransactionId) (controllers : ℕ)
    (status_by : Came → ℕ) (Of : (List Event → Type 0) → Type 0) (Ends : Came → ℕ → Type 0)
    (text_by : Told → Came → List ℕ) (ran : Ran S) : Type 0 where
  pub run : Agrees output written (told below) (told ran.below) ids controllers status_by Of
      Ends text_by ran.status ran.entries
  pub driven : ran.driven ≡ None
  pub fixed : (told ran.below).fixed ≡ (told below).fixed

-- two parties that played the events, and what is written of them; where memory ran out they played
-- the first of them
pub record PlaysOut {S G : Type 0} (output written : SinkTold) (told : Recorder S → Told)
    (next : G → ℕ → TransactionId) (start : TwoParties (Recorder S) G)
    (events : List Event) (ran : Ran S) : Type 0 where
  pub last : TwoParties (Recorder S) G
  pub past : List (Event × Happened)
  pub on : PlayedOn told next false start last past
  pub these : ArePlayed ran.status events (events_of past)
  pub by_table : EndsWith output.faults written.faults (stop_status (code_of_stop last.sides.stop))
      ran.status
  pub text : Wrote output.written written.written ran.status
      (agree_text last.sides (skipped_in past) (taken_of (told last.below)))
  pub entries : ran.entries ≡ Some (record_of last.sides)
  pub below : ran.below ≡ last.below
  pub driven : ran.driven ≡ None

-- two parties, and these events
abbrev pub AgreesOver : {S : Type 0} → SinkTold → SinkTold → (Recorder S → Told)
    → Recorder S → List TransactionId → ℕ → List Event → Ran S → Type 0
AgreesOver output written told below ids controllers events ran =
    AgreesAsPlanned output written told below (listed ids) controllers came_status
    (λ Fact. Fact events) CameEnds came_text ran

-- two parties, and the events that the octets of an input spell
abbrev pub AgreesSpelled : {S : Type 0} → SinkTold → SinkTold → (Recorder S → Told)
    → Recorder S → List TransactionId → ℕ → Result (List Event) ℕ → Ran S → Type 0
AgreesSpelled output written told below ids controllers spelled ran =
    AgreesAsPlanned output written told below (listed ids) controllers
    (spelled_status spelled) (λ Fact. IsOkAnd spelled Fact) (SpelledEnds spelled)
    (spelled_text spelled) ran

-- two parties, and the events of what the reading of the input found
abbrev pub AgreesReading : {S : Type 0} → SinkTold → SinkTold → (Recorder S → Told)
    → Recorder S → List TransactionId → ℕ → Reading → Ran S → Type 0
AgreesReading output written told below ids controllers reading ran =
    AgreesAsPlanned output written told below (listed ids) controllers
    (input_status reading) (IsSpelledBy reading) (InputEnds reading) (input_text reading) ran

-- what was read: the input to its end before two parties are made; out of memory may come first
abbrev pub ReadFor :
    Option AgreeCommand → ℕ → Option (List Entry) → SourceTold → SourceTold → Reading → Type 0
ReadFor None status entries before after reading = after ≡ before
ReadFor (Some command) status entries before after reading =
    Finds INPUT_LIMIT before after reading ⊎ ((status ≡ 6) × IsNone entries)

-- the ids and the controllers that the words name
abbrev pub ids_for : Option AgreeCommand → ℕ → TransactionId
ids_for None = listed []
ids_for (Some command) = listed command.ids

abbrev pub controllers_for : Option AgreeCommand → ℕ
controllers_for None = 0
controllers_for (Some command) = command.controllers

-- the events that the words ask for: those of the input, of which every line is one
abbrev pub IsPlayedFor : Option AgreeCommand → Reading → (List Event → Type 0) → Type 0
IsPlayedFor None reading Fact = ⊥
IsPlayedFor (Some command) reading Fact = IsSpelledBy reading Fact

-- what the recorder tells under the plans of the words
abbrev pub told_for : Option AgreeCommand → Told → Told
told_for None told = told
told_for (Some command) told = told_under command.plans told

-- each plan at the end is its LIST of the words, or as it was without one, and the state stays;
-- where memory runs out before two parties are made both plans may be as they were
abbrev pub PlansLeft :
    Option AgreeCommand → ℕ → Option (List Entry) → Told → Fixed → Type 0
PlansLeft command status entries before after =
    (after ≡ (told_for command before).fixed)
    ⊎ ((status ≡ 6) × IsNone entries × (after ≡ before.fixed))

-- a call for a command, none for words outside the table: over a recorder, of which `told` says
-- what it tells, with what the source tells before and after, and the sink
pub record ServesAgree {S : Type 0} (told : Recorder S → Told) (command : Option AgreeCommand)
    (below : Recorder S) (input left : SourceTold) (output written : SinkTold) (ran : Ran S)
    : Type 0 where
  -- what the reading of the input found, before two parties were made
  pub reading : Reading
  pub read : ReadFor command ran.status ran.entries input left reading
  -- the two parties that the events of the input reached
  pub run : Agrees output written (told_for command (told below)) (told ran.below) (ids_for command)
      (controllers_for command) (agree_status command reading) (IsPlayedFor command reading)
      (Completes command reading) (written_text command reading) ran.status ran.entries
  -- the plans are those of the words, or as they were
  pub plans : PlansLeft command ran.status ran.entries (told below) (told ran.below).fixed
  pub driven : ran.driven ≡ None
