use Rattle.std.proofs.Common.{refl}
use Rattle.txn_broker_run.proofs.ending.end_broker.Goals as goal

-- the run is that of the arguments
pub returns-in-Ok : goal.returns-in-Ok
returns-in-Ok g c = rw c.in-Ok.is (rw c.as_slice.ensures at c.run_broker-ran.ensures)

-- nothing was read
pub returns-in-Err : goal.returns-in-Err
returns-in-Err g c = rw (c.in-Err.is, c.end.ensures) (record {
  read = refl;
  status = c.end_at_fault.ensures.status;
  text = c.end_at_fault.ensures.written;
  driven = refl;
  untouched = record { journal = c.new.ensures.journal; refusals = c.new.ensures.refusals; vetoes = c.new.ensures.vetoes };
})
