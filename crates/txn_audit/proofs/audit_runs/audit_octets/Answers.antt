use Rattle.std.proofs.Common.{inr}
use Rattle.txn_audit.specs.Auditing.{answer_status, answer_text}
use Rattle.txn_audit.proofs.Ending.{ends-nothing}
use Rattle.txn_audit.proofs.audit_runs.audit_octets.Goals as goal

pub returns-in-Ok : goal.returns-in-Ok
returns-in-Ok g c = rw c.end_answered.ensures.told (record {
  wanted = answer_status c.in-Ok.answer;
  text = answer_text c.in-Ok.answer;
  answers = inr c.in-Ok.ensures;
  status = c.end_answered.ensures.status;
  wrote = c.end_answered.ensures.written;
})

pub returns-in-Err : goal.returns-in-Err
returns-in-Err g c = rw (c.end.ensures.status, c.end.ensures.told) (ends-nothing c.args.ids.now _ _)
