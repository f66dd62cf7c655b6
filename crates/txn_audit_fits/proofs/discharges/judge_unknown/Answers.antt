use Rattle.std.proofs.Common.{Option, sym, subst}
use Rattle.amqp_resource_record.specs.declared.step.Step.TheVariants as steps
use Rattle.txn_audit_fits.specs.declared.outs.Outs.{Outs}
use Rattle.txn_audit_fits.specs.Judging.{JudgesHere}
use Rattle.txn_audit_fits.proofs.Judged.{discharge-unknown}
use Rattle.txn_audit_fits.proofs.discharges.judge_unknown.Goals as goal

pub returns : goal.returns
returns c =
    let held = c.args.held.now in
    let P : Option Outs → Type 0 = λ o. JudgesHere held held (steps.Control c.args.link c.args.payload.now) c.args.line.now o in
    subst P (sym c.nothing_after.ensures) (discharge-unknown held c.args.link c.args.payload.now c.args.line.now c.args.discharge c.requires.discharge.opened c.requires.discharge.message c.requires.unknown)
