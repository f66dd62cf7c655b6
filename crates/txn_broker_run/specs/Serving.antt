-- What a call of the program answers and leaves.
use Rattle.std.specs.Prelude.{ℕ, ◌≡◌, ◌⊎◌, Option, Some, None, Result, Ok, Err, List, [], ◌∷◌, codes, IfSome, IsNone, IsOkAnd, if◌then◌else◌}
use Rattle.std.specs.Str.{bytes_eq}
use Rattle.amqp_txn_types.specs.declared.id.TransactionId.{TransactionId}
use Rattle.amqp_below_streams.specs.Streams.{SinkTold, SourceTold}
use Rattle.amqp_resource_record.specs.declared.step.Step.{Step}
use Rattle.amqp_resource_record.specs.declared.stop.Driven.{Driven}
use Rattle.txn_broker_queues.specs.Taking.{Board, taken_of}
use Rattle.txn_broker_run.specs.Reporting.{broker_text}
use Rattle.txn_broker_run.specs.Running.{IsBrokerRun}
use Rattle.txn_broker_run.specs.declared.runs.BrokerRan.{BrokerRan}
use Rattle.txn_program_edges.specs.Faults.{fault_status, fault_text}
use Rattle.txn_program_edges.specs.Reading.{Finds}
use Rattle.txn_program_edges.specs.Unserved.{line_text}
use Rattle.txn_program_edges.specs.Words.{id_words, stream_of_ids}
use Rattle.txn_program_edges.specs.Writing.{EndsWith, Wrote}
use Rattle.txn_program_edges.specs.declared.fault.Fault.{Fault}
use Rattle.txn_program_edges.specs.declared.input.Reading.{Reading}
use Rattle.txn_program_edges.specs.declared.input.Reading.TheVariants as readings
use Rattle.txn_program_edges.specs.declared.words.Ids.{Ids}
use Rattle.txn_program_lines.specs.Lines.{input_steps}
use Rattle.txn_program_runs.specs.Completing.{InputEnds, NoneRose, RunEnds, SpelledEnds}
use Rattle.txn_program_runs.specs.Running.{IsSpelledBy, driven_status, input_status, spelled_status}
use Rattle.txn_program_runs.specs.declared.step_runs.TheConstants.{INPUT_LIMIT}

-- `broker` and the ids that declares draw
abbrev pub broker_words : List (List ℕ) → Option Ids
broker_words [] = None
broker_words (word ∷ words) = if bytes_eq word (codes "broker") then id_words words else None

-- ---- statuses

-- the status: 2 for words outside the table, else by the run
abbrev pub status_of : Option Ids → Reading → Option Driven → ℕ
status_of None reading driven = 2
status_of (Some ids) reading driven = input_status reading driven

-- ---- texts

-- the report, where steps were driven
abbrev pub driven_text : Board → Option Driven → List ℕ
driven_text broker None = []
driven_text broker (Some driven) = broker_text (taken_of broker) driven

-- the text of a run of what the input spells: of the line that isn't a step, or the report
abbrev pub spelled_text : Result (List Step) ℕ → Board → Option Driven → List ℕ
spelled_text (Err number) broker driven = line_text number
spelled_text (Ok steps) broker driven = driven_text broker driven

-- the text of a run of the input
abbrev pub input_text : Reading → Board → Option Driven → List ℕ
input_text readings.Fault broker driven = codes "read fault\n"
input_text readings.TooLong broker driven = codes "input too long\n"
input_text (readings.Whole octets) broker driven =
    spelled_text (input_steps octets) broker driven

-- the text that is written, by the words
abbrev pub written_text : Option Ids → Reading → Board → Option Driven → List ℕ
written_text None reading broker driven = codes "usage\n"
written_text (Some ids) reading broker driven = input_text reading broker driven

-- ---- calls

-- a broker that took, refused and vetoed nothing
pub record IsNew (broker : Board) : Type 0 where
  pub journal : broker.journal ≡ []
  pub refusals : broker.refusals ≡ 0
  pub vetoes : broker.vetoes ≡ 0

-- a run over a new broker, with what the sink tells before and after. Of what was driven,
-- `status_by` is the status of the table and `text_by` what is written; `Of` says of which ids and
-- steps it is a run, and `Ends` how it ends where nothing is refused
pub record Runs (output written : SinkTold) (status_by : Option Driven → ℕ)
    (Of : ((ℕ → TransactionId) → List Step → Type 0) → Type 0)
    (Ends : Option Driven → ℕ → Type 0) (text_by : Board → Option Driven → List ℕ)
    (ran : BrokerRan) : Type 0 where
  -- the status is that of the table; out of memory or a fault of the sink may come in its place
  pub status : EndsWith output.faults written.faults (status_by ran.driven) ran.status
  -- where steps were driven, the record is a legal run over a front of the steps that are asked
  -- for, and the broker took exactly its work
  pub runs : IfSome ran.driven (λ driven. Of (λ ids steps. IsBrokerRun ids steps ran.broker driven))
  -- where none were, nothing was taken
  pub untouched : IsNone ran.driven → IsNew ran.broker
  -- without a refusal of the broker and a fault of the sink a run stops at nothing but an end, a
  -- frame under an id that isn't live, or out of memory
  pub completes : NoneRose 0 ran.broker.refusals → NoneRose output.faults written.faults →
      Ends ran.driven ran.status
  -- what is written is the report with the queues, or the text of the status
  pub text : Wrote output.written written.written ran.status (text_by ran.broker ran.driven)

-- a call that drives nothing, with that status and its text
abbrev pub DrivesNothing : SinkTold → SinkTold → ℕ → List ℕ → BrokerRan → Type 0
DrivesNothing output written status text ran =
    Runs output written (λ _. status) (λ _. ⊥) (λ _ end. (end ≡ 6) ⊎ (end ≡ status)) (λ _ _. text)
    ran

-- a run of these steps with these ids
abbrev pub RunsSteps : SinkTold → SinkTold → (ℕ → TransactionId) → List Step → BrokerRan → Type 0
RunsSteps output written ids steps ran =
    Runs output written driven_status (λ P. P ids steps) (RunEnds steps) driven_text ran

-- a run of what the octets of an input spell
abbrev pub RunsSpelled :
    SinkTold → SinkTold → (ℕ → TransactionId) → Result (List Step) ℕ → BrokerRan → Type 0
RunsSpelled output written ids spelled ran =
    Runs output written (spelled_status spelled) (λ P. IsOkAnd spelled (P ids))
    (SpelledEnds spelled) (spelled_text spelled) ran

-- a run of what the reading of the input found
abbrev pub RunsReading :
    SinkTold → SinkTold → (ℕ → TransactionId) → Reading → BrokerRan → Type 0
RunsReading output written ids reading ran =
    Runs output written (input_status reading) (λ P. IsSpelledBy reading (P ids))
    (InputEnds reading) (input_text reading) ran

-- a run of the input: what the reading of it found, and what was made of that
pub record RunsInput (input left : SourceTold) (output written : SinkTold)
    (ids : ℕ → TransactionId) (ran : BrokerRan) : Type 0 where
  pub reading : Reading
  pub read : Finds INPUT_LIMIT input left reading ⊎ ((ran.status ≡ 6) × IsNone ran.driven)
  pub run : RunsReading output written ids reading ran

-- the steps that the words ask for, with the ids that declares draw
abbrev pub IsRunOf :
    Option Ids → Reading → ((ℕ → TransactionId) → List Step → Type 0) → Type 0
IsRunOf None reading P = ⊥
IsRunOf (Some ids) reading P = IsSpelledBy reading (P (stream_of_ids ids))

-- how a call ends, by the words
abbrev pub Completes : Option Ids → Reading → Option Driven → ℕ → Type 0
Completes None reading driven status = (status ≡ 6) ⊎ (status ≡ 2)
Completes (Some ids) reading driven status = InputEnds reading driven status

-- what was read: words outside the table read nothing, all others the input to its end before a
-- step is driven; out of memory may come before the input is read
abbrev pub ReadFor :
    Option Ids → ℕ → Option Driven → SourceTold → SourceTold → Reading → Type 0
ReadFor None status driven before after reading = after ≡ before
ReadFor (Some ids) status driven before after reading =
    Finds INPUT_LIMIT before after reading ⊎ ((status ≡ 6) × IsNone driven)

-- a call for these ids, none for words outside the table, with what the source and the sink tell
-- before and after
pub record ServesBroker (ids : Option Ids) (input left : SourceTold) (output written : SinkTold)
    (ran : BrokerRan) : Type 0 where
  pub reading : Reading
  pub read : ReadFor ids ran.status ran.driven input left reading
  pub run : Runs output written (status_of ids reading) (IsRunOf ids reading)
      (Completes ids reading) (written_text ids reading) ran

-- ---- processes

-- without arguments nothing is read or driven, and the status is that of the fault; out of memory
-- or a fault of the sink may come in its place
pub record EndsFaulty (fault : Fault) (input left : SourceTold) (output written : SinkTold)
    (ran : BrokerRan) : Type 0 where
  pub read : left ≡ input
  pub status : EndsWith output.faults written.faults (fault_status fault) ran.status
  pub text : Wrote output.written written.written ran.status (fault_text fault)
  pub driven : IsNone ran.driven
  pub untouched : IsNew ran.broker

-- a process: a run for its arguments, or the end without them
abbrev pub EndsBroker : Result (List (List ℕ)) Fault → SourceTold → SourceTold → SinkTold
    → SinkTold → BrokerRan → Type 0
EndsBroker (Ok arguments) input left output written ran =
    ServesBroker (broker_words arguments) input left output written ran
EndsBroker (Err fault) input left output written ran =
    EndsFaulty fault input left output written ran
