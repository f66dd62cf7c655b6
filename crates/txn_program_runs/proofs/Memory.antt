-- A call for which memory ran out before anything was read, driven or written.
use Rattle.std.proofs.Common.{inl, inr, Option, Some, None, refl}
use Rattle.amqp_below_layer.specs.Told.{Told}
use Rattle.amqp_below_recorder.specs.declared.recorder.Recorder.{Recorder}
use Rattle.amqp_below_streams.specs.Streams.{SinkTold, SourceTold}
use Rattle.txn_program_edges.specs.declared.input.Reading.TheVariants as readings
use Rattle.txn_program_edges.proofs.Streaming.{wrote_nothing}
use Rattle.txn_program_runs.specs.Completing.{Completes}
use Rattle.txn_program_runs.specs.Running.{ReadFor}
use Rattle.txn_program_runs.specs.Serving.{ServesRun}
use Rattle.txn_program_runs.specs.declared.run_words.RunCommand.{RunCommand}
use Rattle.txn_program_runs.specs.declared.run_words.RunCommand.TheVariants as commands

read-none : (command : Option RunCommand) (input : SourceTold) → ReadFor command 6 None input input readings.Fault
read-none None input = refl
read-none (Some (commands.Run layer plans ids)) input = inr (refl, refl)
read-none (Some (commands.Make count)) input = refl

completes-none : (command : Option RunCommand) → Completes command readings.Fault None 6
completes-none None = inl refl
completes-none (Some (commands.Run layer plans ids)) = inl refl
completes-none (Some (commands.Make count)) = inl refl

-- whatever the command, such a call serves it
pub served-no_memory : {S : Type 0} (told : Recorder S → Told) (command : Option RunCommand) (below : Recorder S) (input : SourceTold) (output : SinkTold)
    → ServesRun told command below input input output output (record { status = 6; driven = None; entries = None; below = below })
served-no_memory told command below input output = record {
  reading = readings.Fault;
  read = read-none command input;
  run = record {
    status = inl refl;
    runs = tt;
    untouched = λ none. record { taken = refl; opened = refl; refused = refl; refusals = refl; reviews = refl };
    rose = tt;
    vetoes_rose = tt;
    completes = λ quiet written. completes-none command;
    text = wrote_nothing output.written _;
    entries = refl;
  };
  plans = inr (refl, refl, refl);
}
