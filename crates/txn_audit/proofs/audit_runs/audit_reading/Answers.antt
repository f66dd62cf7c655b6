use Rattle.std.proofs.Common.{refl, inr}
use Rattle.std.specs.Prelude.{codes}
use Rattle.txn_audit.proofs.audit_runs.audit_reading.Goals as goal

pub returns-in-Fault : goal.returns-in-Fault
returns-in-Fault g c = rw (c.in-Fault.is, c.end.ensures.status, c.end.ensures.told) (record {
  wanted = 4;
  text = codes "read fault\n";
  answers = inr (refl, refl, refl);
  status = c.end_unserved.ensures.status;
  wrote = c.end_unserved.ensures.written;
})

pub returns-in-TooLong : goal.returns-in-TooLong
returns-in-TooLong g c = rw (c.in-TooLong.is, c.end-in-TooLong.ensures.status, c.end-in-TooLong.ensures.told) (record {
  wanted = 7;
  text = codes "input too long\n";
  answers = inr (refl, refl, refl);
  status = c.end_unserved-in-TooLong.ensures.status;
  wrote = c.end_unserved-in-TooLong.ensures.written;
})

pub returns-in-Whole : goal.returns-in-Whole
returns-in-Whole g c = rw c.in-Whole.is (rw c.as_slice.ensures at c.audit_octets.ensures)
