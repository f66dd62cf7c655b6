-- How a call ends during which the layer below counted no refusal and the sink no fault.
use Rattle.std.specs.Prelude.{ℕ, ◌≡◌, Option, Some, None, Result, Ok, Err, List, ◌⊎◌, IsSome}
use Rattle.amqp_txn_types.specs.Counts.{Rose}
use Rattle.amqp_resource_record.specs.declared.step.Step.{Step}
use Rattle.amqp_resource_record.specs.declared.entry.Entry.{Entry}
use Rattle.amqp_resource_record.specs.declared.stop.Driven.{Driven}
use Rattle.amqp_resource_record.specs.Entries.{steps_of}
use Rattle.amqp_resource_session.specs.Drive.{NextStep}
use Rattle.amqp_resource_session.specs.Steps.{UnderDead, ended_by}
use Rattle.amqp_resource_held.specs.Views.{view_of_record}
use Rattle.txn_program_lines.specs.Lines.{input_steps}
use Rattle.txn_program_edges.specs.declared.input.Reading.{Reading}
use Rattle.txn_program_edges.specs.declared.input.Reading.TheVariants as readings
use Rattle.txn_program_runs.specs.declared.run_words.RunCommand.{RunCommand}
use Rattle.txn_program_runs.specs.declared.run_words.RunCommand.TheVariants as commands

-- the count neither rose nor stands at its last value
abbrev pub NoneRose : ℕ → ℕ → Type 0
NoneRose before now = Rose before now → ⊥

-- after the record, the step is an end, or a frame under an id that isn't live
abbrev pub StopsRun : List Entry → Step → Type 0
StopsRun entries step = UnderDead (view_of_record entries) step ⊎ IsSome (ended_by step)

-- every step has its entry
abbrev pub EveryStep : List Step → Driven → ℕ → Type 0
EveryStep steps driven status = (status ≡ 0) × (steps_of driven.entries ≡ steps)

-- the next step is an end, or a frame under an id that isn't live
abbrev pub Stopped : List Step → Driven → ℕ → Type 0
Stopped steps driven status =
    (status ≡ 1) × NextStep steps driven.entries (StopsRun driven.entries)

-- a run of these steps: 0 where none of them is an end or a frame under an id that isn't live, 1
-- where one is, or out of memory
abbrev pub RunEnds : List Step → Option Driven → ℕ → Type 0
RunEnds steps None status = status ≡ 6
RunEnds steps (Some driven) status =
    (status ≡ 6) ⊎ (EveryStep steps driven status ⊎ Stopped steps driven status)

-- a run of what the input spells, of which a line may be outside the table
abbrev pub SpelledEnds : Result (List Step) ℕ → Option Driven → ℕ → Type 0
SpelledEnds (Err line) driven status = (status ≡ 6) ⊎ (status ≡ 3)
SpelledEnds (Ok steps) driven status = RunEnds steps driven status

-- a run of the input
abbrev pub InputEnds : Reading → Option Driven → ℕ → Type 0
InputEnds readings.Fault driven status = (status ≡ 6) ⊎ (status ≡ 4)
InputEnds readings.TooLong driven status = (status ≡ 6) ⊎ (status ≡ 7)
InputEnds (readings.Whole octets) driven status = SpelledEnds (input_steps octets) driven status

-- a made run: every step has its entry, or out of memory
abbrev pub MadeEnds : ℕ → Type 0
MadeEnds status = (status ≡ 6) ⊎ (status ≡ 0)

-- by the words
abbrev pub Completes : Option RunCommand → Reading → Option Driven → ℕ → Type 0
Completes None reading driven status = (status ≡ 6) ⊎ (status ≡ 2)
Completes (Some (commands.Run layer plans ids)) reading driven status =
    InputEnds reading driven status
Completes (Some (commands.Make count)) reading driven status = MadeEnds status
