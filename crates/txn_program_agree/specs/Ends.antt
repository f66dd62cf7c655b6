-- What the process of `agree` leaves: for its arguments, or where there were none.
use Rattle.std.specs.Prelude.{ℕ, Result, Ok, Err, List}
use Rattle.amqp_below_layer.specs.Told.{Told}
use Rattle.amqp_below_recorder.specs.declared.recorder.Recorder.{Recorder}
use Rattle.amqp_below_streams.specs.Streams.{SinkTold, SourceTold}
use Rattle.txn_program_edges.specs.declared.fault.Fault.{Fault}
use Rattle.txn_program_runs.specs.Ends.{EndsFaulty, IsNewRecorder}
use Rattle.txn_program_runs.specs.declared.step_runs.Ran.{Ran}
use Rattle.txn_program_agree.specs.AgreeWords.{agree_command_of}
use Rattle.txn_program_agree.specs.Serving.{ServesAgree}

-- it does what the arguments ask, and without arguments it ends by the fault
abbrev pub EndsAgree : {S : Type 0} → (Recorder S → Told) → Result (List (List ℕ)) Fault
    → Recorder S → SourceTold → SourceTold → SinkTold → SinkTold → Ran S → Type 0
EndsAgree told (Ok arguments) below input left output written ran =
    ServesAgree told (agree_command_of arguments) below input left output written ran
EndsAgree told (Err fault) below input left output written ran =
    EndsFaulty fault below input left output written ran

-- the same over a new recorder of a layer
abbrev pub EndsAgreeNew : {S : Type 0} → (Recorder S → Told)
    → Result (List (List ℕ)) Fault → SourceTold → SourceTold → SinkTold → SinkTold → Ran S
    → Type 0
EndsAgreeNew {S} told arguments input left output written ran =
    (below : Recorder S) × IsNewRecorder (told below) below
    × EndsAgree told arguments below input left output written ran
