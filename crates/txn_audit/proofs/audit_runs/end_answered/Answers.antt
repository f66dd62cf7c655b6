use Rattle.std.proofs.Common.{refl}
use Rattle.txn_audit.proofs.audit_runs.end_answered.Goals as goal

pub returns-in-Yes : goal.returns-in-Yes
returns-in-Yes g c = rw (c.in-Yes.is, c.end.ensures.status) (record { status = c.write_and_end.ensures.status; written = c.write_and_end.ensures.written; told = c.end.ensures.told })

pub returns-in-No : goal.returns-in-No
returns-in-No g c = rw c.in-No.is (record { status = c.write_and_end-in-No.ensures.status; written = c.write_and_end-in-No.ensures.written; told = refl })

pub returns-in-Unread : goal.returns-in-Unread
returns-in-Unread g c = rw (c.in-Unread.is, c.end-in-Unread.ensures.status) (record { status = c.end_unserved.ensures.status; written = c.end_unserved.ensures.written; told = c.end-in-Unread.ensures.told })
