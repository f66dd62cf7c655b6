-- What a call of the program answers and leaves: the one contract of its top calls.
use Rattle.std.specs.Prelude.{ℕ, ◌≡◌, ◌⊎◌, Option, Result, List, None, IsNone, IsOkAnd, IfSome}
use Rattle.amqp_txn_types.specs.declared.id.TransactionId.{TransactionId}
use Rattle.amqp_below_layer.specs.Told.{Told}
use Rattle.amqp_below_recorder.specs.declared.recorder.Recorder.{Recorder}
use Rattle.amqp_resource_record.specs.declared.step.Step.{Step}
use Rattle.amqp_resource_record.specs.declared.stop.Driven.{Driven}
use Rattle.amqp_resource_session.specs.Drive.{RunRose, RunVetoed}
use Rattle.amqp_below_streams.specs.Streams.{SinkTold, SourceTold}
use Rattle.amqp_below_ids.specs.Counted.{ids_from}
use Rattle.txn_program_runs.specs.Made.{made}
use Rattle.txn_program_edges.specs.Reading.{Finds}
use Rattle.txn_program_runs.specs.declared.step_runs.TheConstants.{INPUT_LIMIT}
use Rattle.txn_program_runs.specs.Running.{IsRun, IsRunOf, IsSpelledBy, PlansLeft, ReadFor, Untouched, driven_status, input_status, input_text, run_text, spelled_status, spelled_text, status_of, summary_text, written_text}
use Rattle.txn_program_runs.specs.Completing.{Completes, InputEnds, MadeEnds, NoneRose, RunEnds, SpelledEnds}
use Rattle.txn_program_edges.specs.Writing.{EndsWith, Wrote}
use Rattle.txn_program_edges.specs.declared.input.Reading.{Reading}
use Rattle.txn_program_runs.specs.declared.step_runs.Ran.{Ran}
use Rattle.txn_program_runs.specs.declared.step_runs.Written.{Written}
use Rattle.txn_program_runs.specs.declared.run_words.RunCommand.{RunCommand}

-- a run over a recorder that told `before`, and of which `told` says what it tells, with what the
-- sink tells before and after. Of what was driven, `status_by` is the status of the table and
-- `text_by` what is written; `Of` says of which ids and steps it is a run, and `Ends` how it ends
-- where nothing is refused
pub record Runs {S : Type 0} (output written : SinkTold) (told : Recorder S → Told)
    (before : Told) (status_by : Option Driven → ℕ)
    (Of : ((ℕ → TransactionId) → List Step → Type 0) → Type 0)
    (Ends : Option Driven → ℕ → Type 0) (text_by : Told → Option Driven → List ℕ) (ran : Ran S)
    : Type 0 where
  -- the status is that of the table; out of memory or a fault of the sink may come in its place
  pub status : EndsWith output.faults written.faults (status_by ran.driven) ran.status
  -- where steps were driven, the record is a legal run over a front of the steps that are asked
  -- for, and the layer below has taken exactly its work
  pub runs : IfSome ran.driven (λ driven.
      Of (λ ids steps. IsRun ids steps before.reviews.vetoed (told ran.below) driven))
  -- where none were, nothing was taken
  pub untouched : IsNone ran.driven → Untouched before (told ran.below)
  -- each refusal was counted, and without one, and without a fault of the sink, a run stops at
  -- nothing but an end, a frame under an id that isn't live, or out of memory, and a made run at
  -- nothing but out of memory
  pub rose : IfSome ran.driven (λ driven. RunRose before.refusals (told ran.below).refusals
      driven.entries driven.stop)
  -- so was each veto
  pub vetoes_rose : IfSome ran.driven (λ driven. RunVetoed before.reviews.vetoes
      (told ran.below).reviews.vetoes driven.entries)
  pub completes : NoneRose before.refusals (told ran.below).refusals →
      NoneRose output.faults written.faults → Ends ran.driven ran.status
  -- what is written is the report, the summary, or the text of the status
  pub text : Wrote output.written written.written ran.status (text_by (told ran.below) ran.driven)
  pub entries : ran.entries ≡ None

-- a run over this recorder by its own plans; these and its state stay
pub record RunsAsPlanned {S : Type 0} (output written : SinkTold) (told : Recorder S → Told)
    (below : Recorder S) (status_by : Option Driven → ℕ)
    (Of : ((ℕ → TransactionId) → List Step → Type 0) → Type 0)
    (Ends : Option Driven → ℕ → Type 0) (text_by : Told → Option Driven → List ℕ) (ran : Ran S)
    : Type 0 where
  pub run : Runs output written told (told below) status_by Of Ends text_by ran
  pub fixed : (told ran.below).fixed ≡ (told below).fixed

-- a call that drives nothing, with that status and its text
abbrev pub DrivesNothing : {S : Type 0} → SinkTold → SinkTold → (Recorder S → Told) → Recorder S
    → ℕ → List ℕ → Ran S → Type 0
DrivesNothing output written told below status text ran =
    RunsAsPlanned output written told below (λ _. status) (λ _. ⊥)
    (λ _ end. (end ≡ 6) ⊎ (end ≡ status)) (λ _ _. text) ran

-- a run of these steps with these ids
abbrev pub RunsSteps : {S : Type 0} → SinkTold → SinkTold → (Recorder S → Told) → Recorder S
    → (ℕ → TransactionId) → List Step → Written → Ran S → Type 0
RunsSteps output written told below ids steps what ran =
    RunsAsPlanned output written told below driven_status (λ Fact. Fact ids steps) (RunEnds steps)
    (run_text what) ran

-- a run of that many made transactions
abbrev pub RunsMade : {S : Type 0} → SinkTold → SinkTold → (Recorder S → Told) → Recorder S
    → ℕ → Ran S → Type 0
RunsMade output written told below count ran =
    RunsAsPlanned output written told below driven_status (λ Fact. Fact (ids_from 1) (made count))
    (λ driven status. MadeEnds status) summary_text ran

-- a run of what the octets of an input spell
abbrev pub RunsSpelled : {S : Type 0} → SinkTold → SinkTold → (Recorder S → Told) → Recorder S
    → (ℕ → TransactionId) → Result (List Step) ℕ → Ran S → Type 0
RunsSpelled output written told below ids spelled ran =
    RunsAsPlanned output written told below (spelled_status spelled) (λ Fact. IsOkAnd spelled (Fact ids))
    (SpelledEnds spelled) (spelled_text spelled) ran

-- a run of what the reading of the input found
abbrev pub RunsReading : {S : Type 0} → SinkTold → SinkTold → (Recorder S → Told) → Recorder S
    → (ℕ → TransactionId) → Reading → Ran S → Type 0
RunsReading output written told below ids reading ran =
    RunsAsPlanned output written told below (input_status reading)
    (λ Fact. IsSpelledBy reading (Fact ids)) (InputEnds reading) (input_text reading) ran

-- a run of the input: what the reading of it found, and what was made of that
pub record RunsInput {S : Type 0} (input left : SourceTold) (output written : SinkTold)
    (told : Recorder S → Told) (below : Recorder S) (ids : ℕ → TransactionId) (ran : Ran S)
    : Type 0 where
  pub reading : Reading
  pub read : Finds INPUT_LIMIT input left reading ⊎ ((ran.status ≡ 6) × IsNone ran.driven)
  pub run : RunsReading output written told below ids reading ran

-- a call for a command, none for words outside the table: over a recorder, of which `told` says
-- what it tells, with what the source tells before and after, and the sink
pub record ServesRun {S : Type 0} (told : Recorder S → Told) (command : Option RunCommand)
    (below : Recorder S) (input left : SourceTold) (output written : SinkTold) (ran : Ran S)
    : Type 0 where
  -- what the reading of the input found, before a step was driven
  pub reading : Reading
  pub read : ReadFor command ran.status ran.driven input left reading
  -- the run of the steps that the words ask for, with the ids that they name
  pub run : Runs output written told (told below) (status_of command reading)
      (IsRunOf command reading) (Completes command reading) (written_text command reading) ran
  -- the plans are those of the words, or as they were
  pub plans : PlansLeft command ran.status ran.driven (told below).fixed (told ran.below).fixed
