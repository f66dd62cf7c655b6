-- What a call leaves, by what it came to.
use Rattle.std.proofs.Common.{◌≡◌, ℕ, ◌≤◌, ◌<◌, Option, Some, None, Result, Ok, List, length, refl, sym, ap, arith, subst, inl, inr}
use Rattle.std.specs.Prelude.{IfOk, codes}
use Rattle.amqp_txn_types.specs.declared.id.TransactionId.{TransactionId}
use Rattle.amqp_txn_types.specs.declared.items.NoMemory.{NoMemory}
use Rattle.amqp_below_streams.specs.Streams.{SinkTold, SourceTold}
use Rattle.txn_program_edges.proofs.Streaming.{wrote_nothing}
use Rattle.txn_program_edges.specs.Reading.{Finds}
use Rattle.txn_program_edges.specs.declared.input.Reading.{Reading}
use Rattle.txn_program_edges.specs.declared.input.Reading.TheVariants as readings
use Rattle.txn_program_runs.specs.declared.step_runs.TheConstants.{INPUT_LIMIT}
use Rattle.txn_relay.specs.declared.event.RelayEvent.{RelayEvent}
use Rattle.txn_relay.specs.Relaying.{Draws, Holds, Relaying}
use Rattle.txn_relay.specs.Playing.{HadAll, HadSome}
use Rattle.txn_relay.proofs.Counting.{messages_few}
use Rattle.txn_relay.specs.Scripts.{script_of}
use Rattle.txn_relay.specs.Serving.{IsStart, IsWithinLimit, Plays, ReadFor, RelaysNothing, RelaysScript, Runs, ServesRelay}
use Rattle.txn_relay.specs.declared.runs.RelayRan.{RelayRan}
use Rattle.txn_relay.specs.declared.script.Script.{Script}

-- out of memory before a relay was made
pub runs_no_memory : (draws : Draws) (output : SinkTold) (status_by : Option Relaying → ℕ) (Of : (List TransactionId → Script → Type 0) → Type 0) (text_by : Option Relaying → ℕ → List ℕ)
    → Runs draws output output status_by Of text_by (record { status = 6; relay = None })
runs_no_memory draws output status_by Of text_by = record { status = inl refl; skipped = 0; relayed = tt; holds = tt; text = wrote_nothing output.written _ }

read_none : (ids : Option (List TransactionId)) (input : SourceTold) → ReadFor ids 6 None input input readings.Fault
read_none None input = refl
read_none (Some ids) input = inr (refl, refl)

pub served_no_memory : (draws : Draws) (ids : Option (List TransactionId)) (input : SourceTold) (output : SinkTold) → ServesRelay draws ids input input output output (record { status = 6; relay = None })
served_no_memory draws ids input output = record { reading = readings.Fault; read = read_none ids input; run = runs_no_memory draws output _ _ _ }

-- the words are outside the table
pub served_usage : (draws : Draws) (words : Option (List TransactionId)) (input : SourceTold) (output written : SinkTold) (ran : RelayRan) → None ≡ words → RelaysNothing draws output written 2 (codes "usage\n") ran → ServesRelay draws words input input output written ran
served_usage draws words input output written ran e r = subst (λ (o : Option (List TransactionId)). ServesRelay draws o input input output written ran) e (record { reading = readings.Fault; read = refl; run = r.0 })

pub finds_within : (before after : SourceTold) (reading : Reading) → Finds INPUT_LIMIT before after reading → IsWithinLimit reading
finds_within before after readings.Fault f = tt
finds_within before after readings.TooLong f = tt
finds_within before after (readings.Whole octets) f = f.0

-- there are fewer messages than a broker numbers
pub messages_within : (octets : List ℕ) (script : Script) → script_of octets ≡ Ok script → length octets ≤ INPUT_LIMIT → length script.messages < 4294967295
messages_within octets script e limit =
    let few = messages_few octets script e in
    omega (arith, few, limit)

-- the relay had its events
pub runs_played : (draws : Draws) (output written : SinkTold) (ids : List TransactionId) (script : Script) (start : Relaying) (ran : RelayRan) → IsStart draws ids script.messages start → Plays draws output written start script.events ran → RelaysScript draws output written ids script ran
runs_played draws output written ids script start ran starts p =
    subst (λ (r : RelayRan). RelaysScript draws output written ids script r) (ap (λ (o : Option Relaying). record { status = ran.status; relay = o }) (sym p.2))
    (record {
      status = p.5;
      skipped = p.1;
      relayed = record { start = start; starts = starts; had = p.4 };
      holds = p.3;
      text = p.6;
    })

-- for the words
pub served_words : (draws : Draws) (found words : Option (List TransactionId)) (input left : SourceTold) (output written : SinkTold) (ran : RelayRan) → found ≡ words → ServesRelay draws found input left output written ran → ServesRelay draws words input left output written ran
served_words draws found words input left output written ran e s = subst (λ (o : Option (List TransactionId)). ServesRelay draws o input left output written ran) e s

-- all events
pub played_all : (draws : Draws) (old new : Relaying) (events : List RelayEvent) (skipped : ℕ) (result : Result ℕ NoMemory) → result ≡ Ok skipped → IfOk result (λ n. HadAll draws old new events n) → HadAll draws old new events skipped
played_all draws old new events skipped result e h = subst (λ (r : Result ℕ NoMemory). IfOk r (λ n. HadAll draws old new events n)) e h

-- memory ran out at one of the events
pub played_no_memory : (draws : Draws) (output : SinkTold) (start relay : Relaying) (events : List RelayEvent) (ran : RelayRan) → ran ≡ record { status = 6; relay = Some relay } → Holds relay → HadSome draws start relay events → Plays draws output output start events ran
played_no_memory draws output start relay events ran e holds some = subst (λ (r : RelayRan). Plays draws output output start events r) (sym e) (relay, 0, refl, holds, inr (refl, some), inl refl, wrote_nothing output.written _)
