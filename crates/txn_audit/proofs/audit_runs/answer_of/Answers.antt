use Rattle.std.proofs.Common.{ℕ, Result, refl, sym, subst}
use Rattle.std.specs.Prelude.{IfOk}
use Rattle.txn_audit.specs.AuditInput.{Parts}
use Rattle.txn_audit.specs.Auditing.{IsAnswerTo}
use Rattle.txn_audit.proofs.audit_runs.answer_of.Goals as goal

pub returns-in-Ok : goal.returns-in-Ok
returns-in-Ok c =
    let P : Result Parts ℕ → Type 0 = λ parts. IfOk c.answer_of_parts.result (IsAnswerTo c.args.ids.now parts) in
    subst P (sym c.in-Ok.ensures.0) c.answer_of_parts.ensures

pub returns-in-Err-Line : goal.returns-in-Err-Line
returns-in-Err-Line c =
    let e = rw c.in-Err-Line.field-0-is at c.in-Err-Line.ensures in
    rw (e, c.in-Err-Line.field-0-is) (refl, refl, refl)
