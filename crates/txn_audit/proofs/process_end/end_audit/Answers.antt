use Rattle.std.proofs.Common.{refl}
use Rattle.txn_audit.proofs.process_end.end_audit.Goals as goal

pub returns-in-Ok : goal.returns-in-Ok
returns-in-Ok g c = rw c.in-Ok.is (rw c.as_slice.ensures at c.run_audit.ensures)

pub returns-in-Err : goal.returns-in-Err
returns-in-Err g c = rw (c.in-Err.is, c.end.ensures.status, c.end.ensures.told) (record { told = refl; read = refl; status = c.end_at_fault.ensures.status; text = c.end_at_fault.ensures.written })
