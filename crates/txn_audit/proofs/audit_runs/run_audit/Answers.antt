use Rattle.std.proofs.Common.{sym, refl, inr}
use Rattle.std.specs.Prelude.{codes}
use Rattle.txn_program_edges.specs.declared.input.Reading.TheVariants as readings
use Rattle.txn_audit.specs.AuditInput.{audit_words}
use Rattle.txn_audit.proofs.Ending.{audits-nothing}
use Rattle.txn_audit.proofs.audit_runs.run_audit.Goals as goal

pub audit_input-requires : goal.audit_input-requires
audit_input-requires g c = rw c.in-Ok-Some.field-0-is at c.in-Ok-Some.ensures.some

pub returns-in-Ok-Some : goal.returns-in-Ok-Some
returns-in-Ok-Some g c =
    let e = rw c.in-Ok-Some.field-0-is at c.in-Ok-Some.ensures.ids in
    rw (sym e) c.audit_input.ensures

pub returns-in-Ok-None : goal.returns-in-Ok-None
returns-in-Ok-None g c =
    let e = rw c.in-Ok-None.field-0-is at c.in-Ok-None.ensures.ids in
    rw (sym e, c.end.ensures.status, c.end.ensures.told) (record {
      reading = readings.Fault;
      wanted = 2;
      text = codes "usage\n";
      read = refl;
      answers = inr (refl, refl, refl);
      status = c.end_unserved.ensures.status;
      wrote = c.end_unserved.ensures.written;
    })

pub returns-in-Err : goal.returns-in-Err
returns-in-Err g c = rw (c.end-in-Err.ensures.status, c.end-in-Err.ensures.told) (audits-nothing (audit_words c.args.words.now) _ _)
