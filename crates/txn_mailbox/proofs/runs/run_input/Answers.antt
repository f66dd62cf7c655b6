use Rattle.std.proofs.Common.{refl, inl, inr}
use Rattle.txn_program_edges.specs.declared.input.Reading.TheVariants as readings
use Rattle.txn_mailbox.proofs.Ends.{no-memory}
use Rattle.txn_mailbox.proofs.runs.run_input.Goals as goal

pub returns-in-Ok : goal.returns-in-Ok
returns-in-Ok g c = record { reading = c.in-Ok.reading; read = inl c.in-Ok.ensures.found; run = c.run_reading.ensures }

pub returns-in-Err : goal.returns-in-Err
returns-in-Err g c = rw c.end_unserving.ensures (record { reading = readings.Fault; read = inr (refl, refl); run = no-memory _ _ _ _ })
