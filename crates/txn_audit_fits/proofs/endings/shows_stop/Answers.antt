use Rattle.std.proofs.Common.{Bool, IsTrue, ◌↔◌, refl, sym, subst}
use Rattle.amqp_resource_record.specs.declared.step.Step.TheVariants as steps
use Rattle.txn_audit_fits.specs.Fits.{Stops, local_end, remote_end}
use Rattle.txn_audit_fits.specs.Ending.{ShowsStop}
use Rattle.txn_audit_fits.proofs.Ended.{connection_stop, no-link_stop, shows-word}
use Rattle.txn_audit_fits.proofs.endings.shows_stop.Goals as goal

pub returns-in-Frame : goal.returns-in-Frame
returns-in-Frame c = rw c.in-Frame.is c.shows_stop_at_frame.ensures

pub returns-in-Control : goal.returns-in-Control
returns-in-Control c = rw c.in-Control.is c.shows_stop_at_message.ensures

pub returns-in-LinkEnd : goal.returns-in-LinkEnd
returns-in-LinkEnd c = λ before s. no-link_stop before c.args.step.now c.args.line.now c.in-LinkEnd.is

pub returns-in-LocalEnd : goal.returns-in-LocalEnd
returns-in-LocalEnd c =
    rw c.in-LocalEnd.is (λ before s.
    let P : Bool → Type 0 = λ b. IsTrue b ↔ ShowsStop before (steps.LocalEnd c.in-LocalEnd.error) c.args.line.now in
    subst P (sym c.shows_local_end.ensures) (shows-word (Stops before (steps.LocalEnd c.in-LocalEnd.error)) c.args.line.now (local_end c.in-LocalEnd.error) refl (λ code x. x)))

pub returns-in-RemoteEnd : goal.returns-in-RemoteEnd
returns-in-RemoteEnd c =
    rw c.in-RemoteEnd.is (λ before s.
    let P : Bool → Type 0 = λ b. IsTrue b ↔ ShowsStop before (steps.RemoteEnd c.in-RemoteEnd.error) c.args.line.now in
    subst P (sym c.shows_remote_end.ensures) (shows-word (Stops before (steps.RemoteEnd c.in-RemoteEnd.error)) c.args.line.now (remote_end c.in-RemoteEnd.error) refl (λ code x. x)))

pub returns-in-ConnectionStop : goal.returns-in-ConnectionStop
returns-in-ConnectionStop c =
    λ before s. connection_stop before c.args.step.now c.args.line.now c.is_text.result c.in-ConnectionStop.is c.is_text.ensures
