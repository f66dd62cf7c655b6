use Rattle.std.proofs.Common.{Bool, List, ◌++◌, ◌∷◌, [], sym, ◌∙◌, ap, not, None, Some, Option, true, false, ◌≡◌}
use Rattle.std.specs.Prelude.{is_some}
use Rattle.amqp_txn_types.specs.declared.id.TransactionId.{TransactionId}
use Rattle.amqp_txn_types.specs.declared.performatives.Frame.{Frame}
use Rattle.amqp_txn_types.specs.Frames.{is_coordinator_attach, is_plain_by, txn}
use Rattle.amqp_resource_record.proofs.Whole.{hands-other_frame, hands-plain}
use Rattle.txn_audit_fits.proofs.Judged.{none_handed}
use Rattle.txn_audit_fits.proofs.endings.add_frame.Goals as goal

under : (o : Option TransactionId) (b : Bool) → is_some o ≡ true → is_plain_by o b ≡ false
under None b e = absurd (cc e)
under (Some id) b e = cc

free : (o : Option TransactionId) (b : Bool) → is_some o ≡ false → is_plain_by o b ≡ not b
free None b e = cc
free (Some id) b e = absurd (cc e)

pub returns-then-is_some : goal.returns-then-is_some
returns-then-is_some c = λ before. none_handed c.args.work.now _ (hands-other_frame before c.args.frame.now (under (txn c.args.frame.now) (is_coordinator_attach c.args.frame.now) (ap is_some (sym c.txn_of.ensures) ∙ sym c.is_some.ensures ∙ c.if-is_some.true)))

pub returns-then-is_control_attach : goal.returns-then-is_control_attach
returns-then-is_control_attach c = λ before.
    let n = ap is_some (sym c.txn_of.ensures) ∙ sym c.is_some.ensures ∙ c.if-is_some.false in
    none_handed c.args.work.now _ (hands-other_frame before c.args.frame.now (free (txn c.args.frame.now) (is_coordinator_attach c.args.frame.now) n ∙ ap not (sym c.is_control_attach.ensures ∙ c.if-is_control_attach.true)))

pub returns : goal.returns
returns c = λ before.
    let n = ap is_some (sym c.txn_of.ensures) ∙ sym c.is_some.ensures ∙ c.if-is_some.false in
    c.in_ok-append.ensures.ok ∙ ap (λ (f : Frame). c.args.work.now ++ f ∷ []) c.in_ok-try_clone.ensures.copy
    ∙ ap (λ (fs : List Frame). c.args.work.now ++ fs) (sym (hands-plain before c.args.frame.now (free (txn c.args.frame.now) (is_coordinator_attach c.args.frame.now) n ∙ ap not (sym c.is_control_attach.ensures ∙ c.if-is_control_attach.false))))
