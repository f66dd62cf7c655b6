-- What a run of the program answers: its statuses, its record, what was taken, and what is written.
use Rattle.std.specs.Prelude.{ℕ, ◌≡◌, ◌↔◌, Option, Some, None, Result, Ok, Err, List, [], length, take, codes, unwrap_or, ◌⊎◌, IsNone, IsOkAnd}
use Rattle.txn_program_edges.specs.Unserved.{line_text}
use Rattle.amqp_txn_types.specs.declared.id.TransactionId.{TransactionId}
use Rattle.amqp_txn_types.specs.declared.performatives.Frame.{Frame}
use Rattle.amqp_txn_types.specs.Growing.{grown}
use Rattle.amqp_below_layer.specs.declared.inner_error.SessionInnerError.TheVariants as faults
use Rattle.amqp_below_layer.specs.Told.{Fixed, Told}
use Rattle.amqp_below_ids.specs.Ids.{AreNext}
use Rattle.amqp_resource_record.specs.declared.step.Step.{Step}
use Rattle.amqp_resource_record.specs.declared.stop.Stop.{Stop}
use Rattle.amqp_resource_record.specs.declared.stop.Stop.TheVariants as stops
use Rattle.amqp_resource_record.specs.declared.stop.Driven.{Driven}
use Rattle.amqp_resource_record.specs.Entries.{drawn_of, steps_of}
use Rattle.amqp_resource_record.specs.Legal.{IsLegal}
use Rattle.amqp_resource_record.specs.Opened.{opens}
use Rattle.amqp_resource_record.specs.Vetoed.{vetoes}
use Rattle.amqp_resource_session.specs.Drive.{RunTook, RunRefused, StopCause}
use Rattle.amqp_below_ids.specs.Counted.{ids_from}
use Rattle.amqp_below_streams.specs.Streams.{SourceTold}
use Rattle.txn_program_lines.specs.Lines.{input_steps}
use Rattle.txn_program_runs.specs.Made.{made, made_text}
use Rattle.txn_program_edges.specs.Reading.{Finds}
use Rattle.txn_program_runs.specs.declared.step_runs.TheConstants.{INPUT_LIMIT}
use Rattle.txn_program_edges.specs.declared.input.Reading.{Reading}
use Rattle.txn_program_edges.specs.declared.input.Reading.TheVariants as readings
use Rattle.txn_program_report.specs.Report.{report_text}
use Rattle.txn_program_runs.specs.declared.step_runs.Written.{Written}
use Rattle.txn_program_runs.specs.declared.step_runs.Written.TheVariants as kinds
use Rattle.txn_program_edges.specs.Words.{stream_of_ids}
use Rattle.txn_program_runs.specs.declared.run_words.RunCommand.{RunCommand}
use Rattle.txn_program_runs.specs.declared.run_words.Plans.{Plans}
use Rattle.txn_program_runs.specs.declared.run_words.RunCommand.TheVariants as commands

-- ---- statuses

-- the status of a stop: 0 every step has its entry, 8 out of memory below, 1 any other fault and an
-- end, 6 out of memory here
abbrev pub stop_status : Stop → ℕ
stop_status stops.Done = 0
stop_status (stops.Fault faults.NoMemory) = 8
stop_status (stops.Fault error) = 1
stop_status (stops.Ended reason) = 1
stop_status stops.NoMemory = 6

-- the status of a run, by its record where steps were driven
abbrev pub driven_status : Option Driven → ℕ
driven_status None = 6
driven_status (Some driven) = stop_status driven.stop

-- the status of a run of what the input spells: 3 for a line outside the line table
abbrev pub spelled_status : Result (List Step) ℕ → Option Driven → ℕ
spelled_status (Err line) driven = 3
spelled_status (Ok steps) driven = driven_status driven

-- the status of a run of the input: 4 for a fault of the source, 7 for more octets than the limit
abbrev pub input_status : Reading → Option Driven → ℕ
input_status readings.Fault driven = 4
input_status readings.TooLong driven = 7
input_status (readings.Whole octets) driven = spelled_status (input_steps octets) driven

-- the status: 2 for words outside the table, else by the run; out of memory and a fault of the sink
-- apart
abbrev pub status_of : Option RunCommand → Reading → Option Driven → ℕ
status_of None reading driven = 2
status_of (Some (commands.Run layer plans ids)) reading driven = input_status reading driven
status_of (Some (commands.Make count)) reading driven = driven_status driven

-- ---- texts

-- what the layer below took
abbrev pub taken_of : Told → List (Frame × List Frame)
taken_of told = unwrap_or told.taken []

-- the report, where steps were driven
abbrev pub driven_text : Told → Option Driven → List ℕ
driven_text below None = []
driven_text below (Some driven) = report_text driven (taken_of below)

-- the text of a run of what the input spells: of the line that isn't a step, or the report
abbrev pub spelled_text : Result (List Step) ℕ → Told → Option Driven → List ℕ
spelled_text (Err line) below driven = line_text line
spelled_text (Ok steps) below driven = driven_text below driven

-- the text of a run of the input
abbrev pub input_text : Reading → Told → Option Driven → List ℕ
input_text readings.Fault below driven = codes "read fault\n"
input_text readings.TooLong below driven = codes "input too long\n"
input_text (readings.Whole octets) below driven = spelled_text (input_steps octets) below driven

-- the text of a made run, where steps were driven
abbrev pub summary_text : Told → Option Driven → List ℕ
summary_text below None = []
summary_text below (Some driven) = made_text driven.entries (length (taken_of below))

-- the text of a whole run, by what is written of it
abbrev pub run_text : Written → Told → Option Driven → List ℕ
run_text kinds.Report = driven_text
run_text kinds.Summary = summary_text

-- the text that is written, by the words
abbrev pub written_text : Option RunCommand → Reading → Told → Option Driven → List ℕ
written_text None reading below driven = codes "usage\n"
written_text (Some (commands.Run layer plans ids)) reading below driven =
    input_text reading below driven
written_text (Some (commands.Make count)) reading below driven = summary_text below driven

-- ---- what a call leaves

-- what was read: a run reads the input to its end before it drives a step, and nothing else reads
-- it; out of memory may come before the input is read
abbrev pub ReadFor :
    Option RunCommand → ℕ → Option Driven → SourceTold → SourceTold → Reading → Type 0
ReadFor None status driven before after reading = after ≡ before
ReadFor (Some (commands.Run layer plans ids)) status driven before after reading =
    Finds INPUT_LIMIT before after reading ⊎ ((status ≡ 6) × IsNone driven)
ReadFor (Some (commands.Make count)) status driven before after reading = after ≡ before

-- the plan of the words, or the one that was there
abbrev pub plan_or : List ℕ → Option (List ℕ) → List ℕ
plan_or before None = before
plan_or before (Some plan) = plan

-- the plans of the words in place of those that were there
abbrev pub under_plans : Plans → Fixed → Fixed
under_plans plans before = record before {
  plan = plan_or before.plan plans.refused;
  starved = plan_or before.starved plans.starved;
}

-- the same told, with the plans of the words
abbrev pub told_under : Plans → Told → Told
told_under plans told = record told { fixed = under_plans plans told.fixed }

-- the plans that the words leave to the recorder
abbrev pub plans_left : Option RunCommand → Fixed → Fixed
plans_left None before = before
plans_left (Some (commands.Run layer plans ids)) before = under_plans plans before
plans_left (Some (commands.Make count)) before = before

-- each plan at the end is its LIST of the words, or as it was without one, and the state stays;
-- where memory runs out before the drive both plans may be as they were
abbrev pub PlansLeft : Option RunCommand → ℕ → Option Driven → Fixed → Fixed → Type 0
PlansLeft command status driven before after =
    (after ≡ plans_left command before) ⊎ ((status ≡ 6) × IsNone driven × (after ≡ before))

-- nothing was taken, opened, refused or vetoed
pub record Untouched (before after : Told) : Type 0 where
  pub taken : after.taken ≡ before.taken
  pub opened : after.opened ≡ before.opened
  pub refused : after.refused ≡ before.refused
  pub refusals : after.refusals ≡ before.refusals
  pub reviews : after.reviews ≡ before.reviews

-- ---- a run and its record

-- a legal run over a front of the steps, with the ids of that source, and what the layer below,
-- which had vetoed that much `before`, has then taken, opened, refused and vetoed of it
pub record IsRun (ids : ℕ → TransactionId) (steps : List Step)
    (before : Option (List (List Frame))) (below : Told) (driven : Driven) : Type 0 where
  -- the record is legal, for the id source
  pub legal : IsLegal driven.entries
  pub drawn : AreNext ids 0 (drawn_of driven.entries)
  -- its steps are the first `at` of the input's
  pub at : driven.at ≡ length driven.entries
  pub front : steps_of driven.entries ≡ take driven.at steps
  -- every step has its entry, or the next step is what stopped it
  pub done : (driven.stop ≡ stops.Done) ↔ (steps_of driven.entries ≡ steps)
  pub cause : StopCause steps driven.entries driven.stop
  -- taken are the pairs of the record and, only after a refusal below, the first `handed` frames
  -- of the next step
  pub taken : RunTook (Some []) below.taken steps driven.entries driven.stop driven.handed
  pub opened : below.opened ≡ Some (opens driven.entries)
  pub refused : RunRefused (Some []) below.refused steps driven.entries driven.stop driven.handed
  -- vetoed is, after what was before, for each commit that was rolled back instead, what it would
  -- have handed
  pub vetoed : below.reviews.vetoed ≡ grown before (vetoes driven.entries)

-- the input was read whole and each of its lines is a step, and of these steps the fact holds
abbrev pub IsSpelledBy : Reading → (List Step → Type 0) → Type 0
IsSpelledBy readings.Fault Fact = ⊥
IsSpelledBy readings.TooLong Fact = ⊥
IsSpelledBy (readings.Whole octets) Fact = IsOkAnd (input_steps octets) Fact

-- the steps that the words ask for, with the ids that declares draw: a run of the input, of which
-- every line is a step, with the ids of the words, or a made run with the numbers from 1
abbrev pub IsRunOf :
    Option RunCommand → Reading → ((ℕ → TransactionId) → List Step → Type 0) → Type 0
IsRunOf None reading Fact = ⊥
IsRunOf (Some (commands.Run layer plans ids)) reading Fact =
    IsSpelledBy reading (Fact (stream_of_ids ids))
IsRunOf (Some (commands.Make count)) reading Fact = Fact (ids_from 1) (made count)
