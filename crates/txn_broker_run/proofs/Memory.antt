-- A call for which memory ran out before anything was read, driven or written.
use Rattle.std.proofs.Common.{None, Option, Some, inl, inr, refl}
use Rattle.amqp_below_streams.specs.Streams.{SinkTold, SourceTold}
use Rattle.txn_broker_queues.specs.Taking.{Board}
use Rattle.txn_broker_run.specs.Serving.{Completes, IsNew, ReadFor, ServesBroker}
use Rattle.txn_program_edges.proofs.Streaming.{wrote_nothing}
use Rattle.txn_program_edges.specs.declared.input.Reading.TheVariants as readings
use Rattle.txn_program_edges.specs.declared.words.Ids.{Ids}

read-none : (ids : Option Ids) (input : SourceTold) → ReadFor ids 6 None input input readings.Fault
read-none None input = refl
read-none (Some ids) input = inr (refl, refl)

completes-none : (ids : Option Ids) → Completes ids readings.Fault None 6
completes-none None = inl refl
completes-none (Some ids) = inl refl

-- whatever the words, such a call serves them
pub served-no_memory : (ids : Option Ids) (broker : Board) (input : SourceTold) (output : SinkTold) → IsNew broker
    → ServesBroker ids input input output output (record { status = 6; driven = None; broker = broker })
served-no_memory ids broker input output new = record {
  reading = readings.Fault;
  read = read-none ids input;
  run = record {
    status = inl refl;
    runs = tt;
    untouched = λ none. new;
    completes = λ quiet written. completes-none ids;
    text = wrote_nothing output.written _;
  };
}
