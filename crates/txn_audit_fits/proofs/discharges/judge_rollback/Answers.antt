use Rattle.std.proofs.Common.{Option, sym, subst}
use Rattle.amqp_resource_log.specs.Live.{kept}
use Rattle.amqp_resource_record.specs.declared.step.Step.TheVariants as steps
use Rattle.txn_audit_fits.specs.declared.outs.Outs.{Outs}
use Rattle.txn_audit_fits.specs.Judging.{JudgesHere}
use Rattle.txn_audit_fits.proofs.Committed.{held_home}
use Rattle.txn_audit_fits.proofs.Judged.{discharge-rollback}
use Rattle.txn_audit_fits.proofs.discharges.judge_rollback.Goals as goal

pub drop_work-requires : goal.drop_work-requires
drop_work-requires g c = held_home c.args.link (kept c.args.held.now.work c.args.discharge.txn_id) c.requires.known

pub returns : goal.returns
returns g c =
    let held = c.args.held.now in
    let P : Option Outs → Type 0 = λ o. JudgesHere held c.drop_work.new.held (steps.Control c.args.link c.args.payload.now) c.args.line.now o in
    subst P (sym c.nothing_after-outs.ensures) (discharge-rollback held c.drop_work.new.held c.args.link c.args.payload.now c.args.line.now c.args.discharge c.requires.discharge.opened c.requires.discharge.message c.requires.known c.requires.rollback c.drop_work.ensures.ended)
