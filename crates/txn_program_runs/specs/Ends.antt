-- What the run of a process leaves: for its arguments, or where there were none.
use Rattle.std.specs.Prelude.{ℕ, ◌≡◌, [], Some, IsNone, Result, Ok, Err, List}
use Rattle.amqp_below_layer.specs.Told.{Told}
use Rattle.amqp_below_recorder.specs.Recording.{IsFresh, inner_of, is_unused, own_of, own_vetoes_of, plan_of, starved_of}
use Rattle.amqp_below_recorder.specs.declared.recorder.Recorder.{Recorder}
use Rattle.amqp_below_streams.specs.Streams.{SinkTold, SourceTold}
use Rattle.txn_program_edges.specs.Faults.{fault_status, fault_text}
use Rattle.txn_program_edges.specs.Writing.{EndsWith, Wrote}
use Rattle.txn_program_edges.specs.declared.fault.Fault.{Fault}
use Rattle.txn_program_runs.specs.RunWords.{command_over, run_command_of}
use Rattle.txn_program_runs.specs.Serving.{ServesRun}
use Rattle.txn_program_runs.specs.declared.run_words.Layer.{Layer}
use Rattle.txn_program_runs.specs.declared.step_runs.Ran.{Ran}

-- a fresh recorder that has no plan, and has refused and vetoed nothing
abbrev pub IsNewRecorder : {S : Type 0} → Told → Recorder S → Type 0
IsNewRecorder told below =
    IsFresh (is_unused below) told × (plan_of below ≡ []) × (starved_of below ≡ [])
    × (own_of below ≡ 0) × (own_vetoes_of below ≡ 0) × (told.reviews.vetoed ≡ Some [])

-- a run without arguments: nothing is read or driven, and the recorder stays as it was. The status
-- is that of the fault; out of memory or a fault of the sink may come in its place
pub record EndsFaulty {S : Type 0} (fault : Fault) (below : Recorder S) (input left : SourceTold)
    (output written : SinkTold) (ran : Ran S) : Type 0 where
  pub read : left ≡ input
  pub status : EndsWith output.faults written.faults (fault_status fault) ran.status
  pub text : Wrote output.written written.written ran.status (fault_text fault)
  pub driven : IsNone ran.driven
  pub entries : IsNone ran.entries
  pub kept : ran.below ≡ below

-- the run of a process over that layer: over the recorder, of which `told` says what it tells, with
-- what the source and the sink tell before and after. It does what the arguments ask of the layer,
-- and without arguments it ends by the fault
abbrev pub EndsOver : {S : Type 0} → (Recorder S → Told) → Layer → Result (List (List ℕ)) Fault
    → Recorder S → SourceTold → SourceTold → SinkTold → SinkTold → Ran S → Type 0
EndsOver told layer (Ok arguments) below input left output written ran =
    ServesRun told (command_over layer (run_command_of arguments)) below input left output written
    ran
EndsOver told layer (Err fault) below input left output written ran =
    EndsFaulty fault below input left output written ran

-- the same over a new recorder of a layer of which that is a fact
abbrev pub EndsOverNew : {S : Type 0} → (Recorder S → Told) → (S → Type 0) → Layer
    → Result (List (List ℕ)) Fault → SourceTold → SourceTold → SinkTold → SinkTold → Ran S
    → Type 0
EndsOverNew {S} told IsLayer layer arguments input left output written ran =
    (below : Recorder S) × IsNewRecorder (told below) below × IsLayer (inner_of below)
    × EndsOver told layer arguments below input left output written ran
