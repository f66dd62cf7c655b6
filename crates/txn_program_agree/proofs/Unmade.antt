-- Calls in which no two parties were made.
use Rattle.std.proofs.Common.{◌≡◌, ℕ, ◌⊎◌, inl, inr, Option, Some, None, List, refl, sym, ◌∙◌, ap, subst}
use Rattle.amqp_txn_types.specs.declared.id.TransactionId.{TransactionId}
use Rattle.amqp_below_layer.specs.Told.{Told}
use Rattle.amqp_below_layer.specs.declared.inner_error.SessionInnerError.{SessionInnerError}
use Rattle.amqp_below_recorder.specs.declared.recorder.Recorder.{Recorder}
use Rattle.amqp_below_streams.specs.Streams.{SinkTold, SourceTold}
use Rattle.amqp_resource_record.specs.Stops.{fault_code}
use Rattle.txn_parties.specs.declared.event.Event.{Event}
use Rattle.txn_program_edges.specs.Writing.{EndsWith, Wrote}
use Rattle.txn_program_edges.specs.declared.input.Reading.{Reading}
use Rattle.txn_program_edges.specs.declared.input.Reading.TheVariants as readings
use Rattle.txn_program_edges.proofs.Streaming.{wrote_nothing}
use Rattle.txn_program_runs.specs.Running.{told_under}
use Rattle.txn_program_runs.specs.declared.step_runs.Ran.{Ran}
use Rattle.txn_program_runs.proofs.Endings.{without_fault}
use Rattle.txn_world.specs.Beginning.{RefusedOnly, Untaken}
use Rattle.txn_world.specs.declared.errors.WorldError.TheVariants as world_errors
use Rattle.txn_program_agree.specs.AgreeText.{refused_text}
use Rattle.txn_program_agree.specs.Serving.{Agrees, AgreesAsPlanned, AgreesOver, AgreesReading, Came, Completes, IsSpelledBy, ReadFor, ServesAgree, Unattached, Unmade, agree_status, controllers_for, ids_for, stop_status, told_for, written_text}
use Rattle.txn_program_agree.specs.declared.agree_words.AgreeCommand.{AgreeCommand}

-- the text of why was written
pub unmade-agrees : {S : Type 0} (output written : SinkTold) (told : Recorder S → Told) (below : Recorder S) (ids : ℕ → TransactionId) (controllers : ℕ) (status_by : Came → ℕ) (Of : (List Event → Type 0) → Type 0) (Ends : Came → ℕ → Type 0) (text_by : Told → Came → List ℕ) (ran : Ran S)
    → EndsWith output.faults written.faults (status_by Unmade) ran.status
    → Wrote output.written written.written ran.status (text_by (told ran.below) Unmade)
    → ran.driven ≡ None → ran.entries ≡ None → ran.below ≡ below
    → ((ran.status ≡ 6) ⊎ (ran.status ≡ status_by Unmade) → Ends Unmade ran.status)
    → AgreesAsPlanned output written told below ids controllers status_by Of Ends text_by ran
unmade-agrees {S} output written told below ids controllers status_by Of Ends text_by ran by_table text driven entries same ends = record {
  run = record {
    came = Unmade;
    by_table = by_table;
    text = text;
    leaves = (entries, ap (λ (r : Recorder S). (told r).taken) same);
    completes = λ quiet calm. ends (without_fault output.faults written.faults (status_by Unmade) ran.status by_table calm);
  };
  driven = driven;
  fixed = ap (λ (r : Recorder S). (told r).fixed) same;
}

-- memory ran out, with the recorder as it was but for what attaches leave
pub no_memory-agrees : {S : Type 0} (output : SinkTold) (told : Recorder S → Told) (below after : Recorder S) (ids : ℕ → TransactionId) (controllers : ℕ) (status_by : Came → ℕ) (Of : (List Event → Type 0) → Type 0) (Ends : Came → ℕ → Type 0) (text_by : Told → Came → List ℕ)
    → (told after).taken ≡ (told below).taken → (told after).fixed ≡ (told below).fixed → Ends Unmade 6
    → AgreesAsPlanned output output told below ids controllers status_by Of Ends text_by (record { status = 6; driven = None; entries = None; below = after })
no_memory-agrees output told below after ids controllers status_by Of Ends text_by taken fixed ends = record {
  run = record {
    came = Unmade;
    by_table = inl refl;
    text = wrote_nothing output.written _;
    leaves = (refl, taken);
    completes = λ quiet calm. ends;
  };
  driven = refl;
  fixed = fixed;
}

-- the attach of a control link was refused
pub unattached-agrees : {S : Type 0} (output written : SinkTold) (told : Recorder S → Told) (below after : Recorder S) (ids : List TransactionId) (controllers : ℕ) (events : List Event) (error : SessionInnerError) (ran : Ran S)
    → Untaken (told below) (told after) → RefusedOnly (told below) (told after) controllers (world_errors.AttachRefused error)
    → EndsWith output.faults written.faults (stop_status (Some (fault_code error))) ran.status
    → Wrote output.written written.written ran.status (refused_text error)
    → ran.driven ≡ None → ran.entries ≡ None → ran.below ≡ after
    → AgreesOver output written told below ids controllers events ran
unattached-agrees {S} output written told below after ids controllers events error ran untaken refused by_table text driven entries same =
    let only : RefusedOnly (told below) (told ran.below) controllers (world_errors.AttachRefused error) =
    subst (λ (r : Recorder S). RefusedOnly (told below) (told r) controllers (world_errors.AttachRefused error)) (sym same) refused in
    record {
      run = record {
        came = Unattached error;
        by_table = by_table;
        text = text;
        leaves = (entries, ap (λ (r : Recorder S). (told r).taken) same ∙ untaken.taken, only, tt);
        completes = λ quiet calm. quiet only.0;
      };
      driven = driven;
      fixed = ap (λ (r : Recorder S). (told r).fixed) same ∙ untaken.fixed;
    }

-- a call over the recorder under the plans of the words serves them
pub planned-serves : {S : Type 0} (told : Recorder S → Told) (command : AgreeCommand) (below planned : Recorder S) (input left : SourceTold) (output written : SinkTold) (reading : Reading) (ran : Ran S)
    → told planned ≡ told_under command.plans (told below)
    → ReadFor (Some command) ran.status ran.entries input left reading
    → AgreesReading output written told planned command.ids command.controllers reading ran
    → ServesAgree told (Some command) below input left output written ran
planned-serves told command below planned input left output written reading ran is read run = record {
  reading = reading;
  read = read;
  run = subst (λ (t : Told). Agrees output written t (told ran.below) (ids_for (Some command)) (controllers_for (Some command)) (agree_status (Some command) reading) (IsSpelledBy reading) (Completes (Some command) reading) (written_text (Some command) reading) ran.status ran.entries) is run.run;
  plans = inl (run.fixed ∙ ap (λ (t : Told). t.fixed) is);
  driven = run.driven;
}

-- whatever the command, a call for which memory ran out before anything was read serves it
pub serves-no_memory : {S : Type 0} (told : Recorder S → Told) (command : Option AgreeCommand) (below : Recorder S) (input : SourceTold) (output : SinkTold)
    → ServesAgree told command below input input output output (record { status = 6; driven = None; entries = None; below = below })
serves-no_memory told command below input output = record {
  reading = readings.Fault;
  read = read-none command;
  run = record {
    came = Unmade;
    by_table = inl refl;
    text = wrote_nothing output.written _;
    leaves = (refl, taken command);
    completes = λ quiet calm. completes-none command;
  };
  plans = inr (refl, refl, refl);
  driven = refl;
}
  where
    read-none : (o : Option AgreeCommand) → ReadFor o 6 None input input readings.Fault
    read-none None = refl
    read-none (Some some) = inr (refl, refl)

    taken : (o : Option AgreeCommand) → (told below).taken ≡ (told_for o (told below)).taken
    taken None = refl
    taken (Some some) = refl

    completes-none : (o : Option AgreeCommand) → Completes o readings.Fault Unmade 6
    completes-none None = inl refl
    completes-none (Some some) = inl refl
