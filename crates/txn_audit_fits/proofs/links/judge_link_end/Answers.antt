use Rattle.std.proofs.Common.{Option, sym, ◌∙◌, subst}
use Rattle.amqp_resource_record.specs.declared.step.Step.TheVariants as steps
use Rattle.txn_audit_fits.specs.declared.outs.Outs.{Outs}
use Rattle.txn_audit_fits.specs.Judging.{JudgesHere}
use Rattle.txn_audit_fits.proofs.Judged.{link_end-open, link_end-other}
use Rattle.txn_audit_fits.proofs.links.judge_link_end.Goals as goal

pub returns-then-not-has_link : goal.returns-then-not-has_link
returns-then-not-has_link g c =
    let held = c.args.held.now in
    let P : Option Outs → Type 0 = λ o. JudgesHere held held (steps.LinkEnd c.args.link) c.args.line.now o in
    subst P (sym c.nothing_after.ensures) (link_end-other held c.args.link c.args.line.now (sym c.has_link.ensures ∙ c.if-not-has_link.true))

pub returns : goal.returns
returns g c =
    let held = c.args.held.now in
    let P : Option Outs → Type 0 = λ o. JudgesHere held c.end_link.new.held (steps.LinkEnd c.args.link) c.args.line.now o in
    let e = c.end_link.ensures in
    subst P (sym c.nothing_after-outs.ensures)
    (link_end-open held c.end_link.new.held c.args.link c.args.line.now (sym c.has_link.ensures ∙ c.if-not-has_link.false) (record { live = e.live; links = e.links; tied = e.tied; opened = e.opened }))
