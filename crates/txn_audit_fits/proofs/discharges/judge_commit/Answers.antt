use Rattle.std.proofs.Common.{Option, Some, sym, ◌∙◌, subst, arith}
use Rattle.std.specs.Prelude.{codes}
use Rattle.amqp_resource_log.specs.Live.{kept}
use Rattle.amqp_resource_record.specs.declared.step.Step.TheVariants as steps
use Rattle.txn_audit_fits.specs.declared.outs.Outs.{Outs}
use Rattle.txn_audit_fits.specs.Judging.{JudgesWork}
use Rattle.txn_audit_fits.proofs.Committed.{commit-no, commit-vetoed, commit-yes, held_home}
use Rattle.txn_audit_fits.proofs.Judged.{other_text, same_text}
use Rattle.txn_audit_fits.proofs.discharges.judge_commit.Goals as goal

pub drop_work-requires : goal.drop_work-requires
drop_work-requires g c = held_home c.args.link (kept c.args.held.now.work c.args.discharge.txn_id) c.requires.known

pub returns-then-is_text : goal.returns-then-is_text
returns-then-is_text g c =
    let held = c.args.held.now in
    let t = c.in_ok-hand_work.ensures in
    let P : Outs → Type 0 = λ o. JudgesWork held c.hand_work.new.held c.args.work.now c.hand_work.new.work (steps.Control c.args.link c.args.payload.now) c.args.line.now (Some o) in
    subst P (sym c.outs_of_count.ensures)
    (commit-yes held c.hand_work.new.held c.args.link c.args.payload.now c.args.line.now c.args.discharge c.requires.discharge.opened c.requires.discharge.message c.requires.known c.requires.commit c.args.work.now c.hand_work.new.work c.count-count.result t.ended t.work c.count-count.ensures (same_text c.args.line.now (codes "accepted") (sym c.is_text.ensures ∙ c.if-is_text.true)))

pub returns-then-count-eq0 : goal.returns-then-count-eq0
returns-then-count-eq0 g c =
    commit-no c.args.held.now c.args.held.now c.args.link c.args.payload.now c.args.line.now c.args.discharge c.requires.discharge.opened c.requires.discharge.message c.requires.known c.requires.commit c.args.work.now c.args.work.now
    (other_text c.args.line.now (codes "accepted") (sym c.is_text.ensures ∙ c.if-is_text.false)) (λ some _. absurd (omega (arith, some, c.count-count.ensures, c.if-count-eq0.true)))

pub returns : goal.returns
returns g c =
    let held = c.args.held.now in
    let P : Option Outs → Type 0 = λ o. JudgesWork held c.drop_work.new.held c.args.work.now c.args.work.now (steps.Control c.args.link c.args.payload.now) c.args.line.now o in
    subst P (sym c.nothing_after-outs.ensures)
    (commit-vetoed held c.drop_work.new.held c.args.link c.args.payload.now c.args.line.now c.args.discharge c.requires.discharge.opened c.requires.discharge.message c.requires.known c.requires.commit c.drop_work.ensures.ended (omega (arith, c.count-count.ensures, c.if-count-eq0.false))
    (other_text c.args.line.now (codes "accepted") (sym c.is_text.ensures ∙ c.if-is_text.false)) c.args.work.now)
