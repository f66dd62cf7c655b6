use Rattle.std.proofs.Common.{Option, sym, subst}
use Rattle.amqp_resource_record.specs.declared.step.Step.TheVariants as steps
use Rattle.txn_audit_fits.specs.declared.outs.Outs.{Outs}
use Rattle.txn_audit_fits.specs.Judging.{JudgesHere}
use Rattle.txn_audit_fits.proofs.Judged.{control-closed}
use Rattle.txn_audit_fits.proofs.links.judge_close.Goals as goal

pub returns : goal.returns
returns g c =
    let held = c.args.held.now in
    let P : Option Outs → Type 0 = λ o. JudgesHere held c.end_link.new.held (steps.Control c.args.link c.args.payload.now) c.args.line.now o in
    let e = c.end_link.ensures in
    subst P (sym c.nothing_after-outs.ensures)
    (control-closed held c.end_link.new.held c.args.link c.args.payload.now c.args.line.now c.requires.opened c.requires.message (record { live = e.live; links = e.links; tied = e.tied; opened = e.opened }))
