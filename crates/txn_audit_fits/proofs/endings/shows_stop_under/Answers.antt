use Rattle.std.proofs.Common.{Bool, sym, ◌∙◌, ap, subst}
use Rattle.std.specs.Prelude.{is_some}
use Rattle.amqp_resource_record.specs.declared.step.Step.TheVariants as steps
use Rattle.txn_audit_fits.specs.Ending.{TellsStop}
use Rattle.txn_audit_fits.proofs.Ended.{stop-answered, stop-dead, stop-silent, told-none, told-some}
use Rattle.txn_audit_fits.proofs.endings.shows_stop_under.Goals as goal

pub returns-then-not-is_live : goal.returns-then-not-is_live
returns-then-not-is_live c =
    let Q : Bool → Type 0 = λ b. TellsStop c.args.held.now (steps.Frame c.args.frame.now) c.args.line.now b in
    subst Q (sym c.is_text.ensures) (stop-dead c.args.held.now c.args.frame.now c.args.id c.args.line.now c.requires (sym c.is_live.ensures ∙ c.if-not-is_live.true))

pub returns-then-not-answered : goal.returns-then-not-answered
returns-then-not-answered c =
    stop-silent c.args.held.now c.args.frame.now c.args.id c.args.line.now c.requires (sym c.is_live.ensures ∙ c.if-not-is_live.false)
    (sym c.presumed_under.ensures ∙ told-none c.presumed_under.result (sym c.is_some-answered.ensures ∙ c.if-not-answered.true))

pub returns : goal.returns
returns c =
    let Q : Bool → Type 0 = λ b. TellsStop c.args.held.now (steps.Frame c.args.frame.now) c.args.line.now b in
    let one = told-some c.presumed_under.result (sym c.is_some-answered.ensures ∙ c.if-not-answered.false) in
    subst Q (sym (c.is_some.ensures ∙ ap is_some c.refusal_of_stop.ensures))
    (stop-answered c.args.held.now c.args.frame.now one.0 c.args.id c.args.line.now c.requires (sym c.is_live.ensures ∙ c.if-not-is_live.false) (sym c.presumed_under.ensures ∙ one.1))
