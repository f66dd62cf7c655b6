use Rattle.std.proofs.Common.{inl, inr, refl}
use Rattle.txn_program_edges.specs.declared.input.Reading.TheVariants as readings
use Rattle.txn_relay.proofs.Served.{finds_within, runs_no_memory}
use Rattle.txn_relay.proofs.runs.relay_input.Goals as goal

pub relay_reading-requires-clause-limit : goal.relay_reading-requires-clause-limit
relay_reading-requires-clause-limit g c = finds_within _ _ c.in-Ok.reading c.in-Ok.ensures.found

pub returns-in-Ok : goal.returns-in-Ok
returns-in-Ok g c = record { reading = c.in-Ok.reading; read = inl c.in-Ok.ensures.found; run = c.relay_reading.ensures }

pub returns-in-Err : goal.returns-in-Err
returns-in-Err g c = rw c.end_without_memory.ensures (record { reading = readings.Fault; read = inr (refl, refl); run = runs_no_memory _ _ _ _ _ })
