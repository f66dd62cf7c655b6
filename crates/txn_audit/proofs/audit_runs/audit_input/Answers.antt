use Rattle.txn_audit.specs.Auditing.{line_told}
use Rattle.txn_audit.proofs.Ending.{audits-read, audits-unread}
use Rattle.txn_audit.proofs.audit_runs.audit_input.Goals as goal

pub returns-in-Ok : goal.returns-in-Ok
returns-in-Ok g c = audits-read c.args.ids.now _ _ _ _ c.in-Ok.reading c.audit_reading.result.status (line_told c.audit_reading.result.why) c.in-Ok.ensures.found c.audit_reading.ensures

pub returns-in-Err : goal.returns-in-Err
returns-in-Err g c = rw (c.end.ensures.status, c.end.ensures.told) (audits-unread c.args.ids.now _ _ _)
