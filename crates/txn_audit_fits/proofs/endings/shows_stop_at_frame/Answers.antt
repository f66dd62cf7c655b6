use Rattle.std.proofs.Common.{Bool, sym, ◌∙◌, ap, subst}
use Rattle.std.specs.Prelude.{is_some}
use Rattle.amqp_resource_record.specs.declared.step.Step.TheVariants as steps
use Rattle.txn_audit_fits.specs.Ending.{TellsStop}
use Rattle.txn_audit_fits.proofs.Ended.{stop-attach, stop-plain}
use Rattle.txn_audit_fits.proofs.endings.shows_stop_at_frame.Goals as goal

pub returns-then-is_control_attach : goal.returns-then-is_control_attach
returns-then-is_control_attach c = stop-attach c.args.held.now c.args.frame.now c.args.line.now (sym c.txn_of.ensures ∙ c.in_default.is) (sym c.is_control_attach.ensures ∙ c.if-is_control_attach.true)

pub returns : goal.returns
returns c =
    let Q : Bool → Type 0 = λ b. TellsStop c.args.held.now (steps.Frame c.args.frame.now) c.args.line.now b in
    subst Q (sym (c.is_some.ensures ∙ ap is_some c.refusal_of_stop.ensures)) (stop-plain c.args.held.now c.args.frame.now c.args.line.now (sym c.txn_of.ensures ∙ c.in_default.is) (sym c.is_control_attach.ensures ∙ c.if-is_control_attach.false))
