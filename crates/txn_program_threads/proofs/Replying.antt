-- What a worker's step is not answered with.
use Rattle.std.proofs.Common.{◌≡◌, ℕ, Bool, true, false, Option, Some, None, List, refl, ap, ◌∙◌}
use Rattle.amqp_txn_types.specs.declared.id.TransactionId.{TransactionId}
use Rattle.amqp_txn_types.specs.declared.performatives.Frame.{Frame}
use Rattle.amqp_txn_types.specs.Frames.{txn}
use Rattle.amqp_txn_codec.specs.declared.message.ControlMessageBody.{ControlMessageBody}
use Rattle.amqp_txn_codec.specs.declared.message.ControlMessageBody.TheVariants as messages
use Rattle.amqp_txn_codec.specs.Reading.{message_of}
use Rattle.amqp_resource_record.specs.Answers.{Answer, AnswerControl, AnswerDeclare, AnswerDischarge, AnswerFrame}
use Rattle.amqp_resource_record.specs.Links.{is_open}
use Rattle.amqp_resource_record.specs.declared.entry.Entry.{Entry}
use Rattle.amqp_resource_record.specs.declared.reply.Reply.{Reply}
use Rattle.amqp_resource_record.specs.declared.reply.Reply.TheVariants as replies
use Rattle.amqp_resource_record.specs.declared.step.Step.{Step}
use Rattle.amqp_resource_record.specs.declared.step.Step.TheVariants as steps
use Rattle.amqp_resource_shared.specs.OneStep.{Appended}
use Rattle.amqp_resource_shared.specs.Receipts.{drawn_told, is_told, step_told}
use Rattle.amqp_resource_shared.specs.ReplyCodes.{code_of_reply}
use Rattle.amqp_resource_shared.specs.declared.receipt.Receipt.{Receipt}
use Rattle.txn_program_threads.specs.Tallies.{closed}
use Rattle.txn_program_threads.specs.WorkerSteps.{HasMessage, IsReadable}

frame-open : (es : List Entry) (s : Step) (d : List TransactionId) (f : Frame) (t : Option TransactionId) (reply : Reply) → AnswerFrame es f t reply → closed s d (code_of_reply reply) ≡ false
frame-open es s d f None replies.LinkEnded a = absurd a
frame-open es s d f None (replies.LinkClosed e) a = absurd a
frame-open es s d f (Some t) replies.LinkEnded a = absurd a
frame-open es s d f (Some t) (replies.LinkClosed e) a = absurd a
frame-open es s d f t _ a = refl

declare-open : (es : List Entry) (s : Step) (d : List TransactionId) (g : Option TransactionId) (reply : Reply) → AnswerDeclare es g d reply → closed s d (code_of_reply reply) ≡ false
declare-open es s d None replies.LinkEnded a = absurd a
declare-open es s d None (replies.LinkClosed e) a = absurd a
declare-open es s d (Some g) replies.LinkEnded a = absurd a
declare-open es s d (Some g) (replies.LinkClosed e) a = absurd a
declare-open es s d g _ a = refl

discharge-open : (es : List Entry) (s : Step) (d : List TransactionId) (k : ℕ) (t : TransactionId) (fail : Option Bool) (reply : Reply) → AnswerDischarge es k t fail d reply → closed s d (code_of_reply reply) ≡ false
discharge-open es s d k t fail replies.LinkEnded a = absurd a
discharge-open es s d k t fail (replies.LinkClosed e) a = absurd a
discharge-open es s d k t fail _ a = refl

control-open : (es : List Entry) (s : Step) (d : List TransactionId) (k : ℕ) (o : Bool) (m : Option ControlMessageBody) (reply : Reply) → AnswerControl es k o m d reply → HasMessage m → closed s d (code_of_reply reply) ≡ false
control-open es s d k false m replies.LinkEnded a h = absurd a
control-open es s d k false m (replies.LinkClosed e) a h = absurd a
control-open es s d k false m _ a h = refl
control-open es s d k true None reply a h = absurd h
control-open es s d k true (Some (messages.Declare x)) reply a h = declare-open es s d x.global_id reply a
control-open es s d k true (Some (messages.Discharge x)) reply a h = discharge-open es s d k x.txn_id x.fail reply a

-- a frame or a message is not answered with the end of a link
open-reply : (es : List Entry) (s : Step) (d : List TransactionId) (reply : Reply) → Answer es s d reply → IsReadable s → closed s d (code_of_reply reply) ≡ false
open-reply es (steps.Frame f) d reply a r = frame-open es (steps.Frame f) d f (txn f) reply a.1
open-reply es (steps.Control k p) d reply a r = control-open es (steps.Control k p) d k (is_open es k) (message_of p) reply a r
open-reply es (steps.LinkEnd k) d reply a r = absurd r
open-reply es (steps.LocalEnd e) d reply a r = absurd r
open-reply es (steps.RemoteEnd e) d reply a r = absurd r
open-reply es (steps.ConnectionStop e) d reply a r = absurd r

-- the receipt of such a step
pub never-closed : (old new : List Entry) (s : Step) (r : Receipt) → IsReadable s → Appended old new s r → (step_told r ≡ s) × (is_told closed r ≡ false)
never-closed old new s r reads made =
    let is = made.1 in
    let same : step_told r ≡ s = is.of.step ∙ is.step in
    let shut : closed s made.0.drawn.ids (code_of_reply made.0.reply) ≡ false = open-reply old s made.0.drawn.ids made.0.reply is.answer reads in
    (same, ap (λ c. closed (step_told r) (drawn_told r).ids c) is.of.code ∙ shut)
