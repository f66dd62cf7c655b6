use Rattle.std.proofs.Common.{List, ◌++◌, sym, ◌∙◌, ap}
use Rattle.amqp_txn_types.specs.declared.performatives.Frame.{Frame}
use Rattle.amqp_resource_record.specs.declared.step.Step.TheVariants as steps
use Rattle.txn_audit_fits.specs.Ending.{AddsHands}
use Rattle.txn_audit_fits.specs.Judging.{Takes}
use Rattle.txn_audit_fits.proofs.Committed.{on_ok}
use Rattle.txn_audit_fits.proofs.Ended.{hands-none, hands-some}
use Rattle.txn_audit_fits.proofs.Judged.{none_handed}
use Rattle.txn_audit_fits.proofs.endings.add_commit.Goals as goal

pub returns-in-None : goal.returns-in-None
returns-in-None g c = λ before s. none_handed c.args.work.now _ (hands-none c.args.held.now c.args.link c.args.payload.now c.in-None.ensures before s)

pub returns-in-Some : goal.returns-in-Some
returns-in-Some g c =
    on_ok (Takes c.args.held.now c.hand_work.new.held c.args.work.now c.hand_work.new.work c.in-Some.id) (AddsHands c.args.held.now c.args.work.now c.hand_work.new.work (steps.Control c.args.link c.args.payload.now)) c.hand_work.result
    (λ t before s. t.work ∙ ap (λ (fs : List Frame). c.args.work.now ++ fs) (sym (hands-some c.args.held.now c.args.link c.args.payload.now c.in-Some.id c.in-Some.ensures before s))) c.hand_work.ensures
