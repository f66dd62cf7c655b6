use Rattle.std.proofs.Common.{refl}
use Rattle.txn_relay.proofs.ending.end_relay.Goals as goal

-- the run is that of the arguments
pub returns-in-Ok : goal.returns-in-Ok
returns-in-Ok g c = rw c.in-Ok.is (rw c.as_slice.ensures at c.run_relay-ran.ensures)

-- nothing was read
pub returns-in-Err : goal.returns-in-Err
returns-in-Err g c = rw c.in-Err.is (record {
  read = refl;
  status = c.end_at_fault.ensures.status;
  text = c.end_at_fault.ensures.written;
  relay = refl;
})
