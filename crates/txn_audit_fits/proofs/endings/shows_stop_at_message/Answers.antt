use Rattle.std.proofs.Common.{Bool, sym, subst}
use Rattle.amqp_resource_record.specs.declared.step.Step.TheVariants as steps
use Rattle.txn_audit_fits.specs.Ending.{TellsHands, TellsStop}
use Rattle.txn_audit_fits.proofs.Ended.{stop-message, stop-no_message}
use Rattle.txn_audit_fits.proofs.endings.shows_stop_at_message.Goals as goal

pub returns-then-not-hands_some : goal.returns-then-not-hands_some
returns-then-not-hands_some c =
    let P : Bool → Type 0 = λ b. TellsHands c.args.held.now (steps.Control c.args.link c.args.payload.now) b in
    stop-no_message c.args.held.now c.args.link c.args.payload.now c.args.line.now (subst P c.if-not-hands_some.true c.hands_some.ensures)

pub returns : goal.returns
returns c =
    let P : Bool → Type 0 = λ b. TellsHands c.args.held.now (steps.Control c.args.link c.args.payload.now) b in
    let Q : Bool → Type 0 = λ b. TellsStop c.args.held.now (steps.Control c.args.link c.args.payload.now) c.args.line.now b in
    subst Q (sym c.is_text.ensures) (stop-message c.args.held.now c.args.link c.args.payload.now c.args.line.now (subst P c.if-not-hands_some.false c.hands_some.ensures))
