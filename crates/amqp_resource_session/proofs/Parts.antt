-- The parts of what a step leaves, as its public clauses say them.
use Rattle.std.proofs.Common.{◌≡◌, ℕ, Bool, true, false, Option, Some, None, Result, Ok, Err, List, refl, sym, ◌∙◌, ap, inl, inr}
use Rattle.std.specs.Prelude.{◌⊎◌, ⊤, MatchBool, IfOk, IfErr, OnErr}
use Rattle.amqp_resource_record.specs.Answers.{Answer, AnswerControl, AnswerDeclare, AnswerFrame, AnswerLinkEnd}
use Rattle.amqp_txn_codec.specs.declared.message.ControlMessageBody.{ControlMessageBody}
use Rattle.amqp_below_ids.specs.Drawn.{DrawnIds}
use Rattle.amqp_resource_record.specs.declared.entry.Entry.{Entry}
use Rattle.amqp_txn_types.specs.declared.performatives.Frame.{Frame}
use Rattle.amqp_resource_held.specs.declared.held.Held.{Held}
use Rattle.amqp_resource_record.specs.declared.reply.Reply.{Reply}
use Rattle.amqp_txn_types.specs.Counts.{Rose}
use Rattle.amqp_below_layer.specs.declared.inner_error.SessionInnerError.{SessionInnerError}
use Rattle.amqp_txn_types.specs.declared.delivery.SessionStopReason.{SessionStopReason}
use Rattle.amqp_resource_record.specs.declared.step.Step.{Step}
use Rattle.amqp_resource_record.specs.declared.stop.StepError.{StepError}
use Rattle.amqp_below_layer.specs.Told.{Told}
use Rattle.amqp_txn_types.specs.declared.id.TransactionId.{TransactionId}
use Rattle.amqp_resource_session.specs.declared.session.TxnSession.{TxnSession}
use Rattle.amqp_resource_record.specs.Hands.{hands}
use Rattle.amqp_resource_record.specs.Links.{is_open}
use Rattle.amqp_txn_codec.specs.Reading.{message_of}
use Rattle.amqp_txn_types.specs.Frames.{txn}
use Rattle.amqp_txn_codec.specs.declared.message.ControlMessageBody.TheVariants as messages
use Rattle.amqp_below_layer.specs.declared.inner_error.SessionInnerError.TheVariants as faults
use Rattle.amqp_resource_record.specs.declared.step.Step.TheVariants as steps
use Rattle.amqp_resource_record.specs.declared.reply.Reply.TheVariants as replies
use Rattle.amqp_resource_record.specs.declared.stop.StepError.TheVariants as errors
use Rattle.amqp_resource_held.specs.Held.{SameHeld, Stands}
use Rattle.amqp_resource_session.specs.Session.{SameSession, StopAfter, below_of, held_of, stop_of}
use Rattle.amqp_resource_session.specs.Steps.{AnswersEnd, FrameMayFault, IfAttachRefused, IfEnded, IfRefused, IfUnknown, IsControlAttach, IsDead, IsFirstStop, MayFault, OnAttachRefused, OnNoMemory, OnNoCall, OnVeto, Refused, StepCause, UnderDead, calls_nothing, ended_by, is_live_under, is_unknown, step_hands, takes_memory}
use Rattle.amqp_resource_session.specs.Keeping.{AnswerKeeps, FrameKeeps, StepKeeps}
use Rattle.amqp_resource_held.specs.Views.{View, view_of_record}
use Rattle.amqp_resource_session.proofs.Recorded.{StepAnswered, StepGave}

-- ---- choices

pub on_false : (A : Type 0) {B C : Type 0} (b : Bool) → (B → C) → MatchBool b A B → MatchBool b ⊤ C
on_false A true f x = tt
on_false A false f x = f x

on_true : {A C : Type 0} (B : Type 0) (b : Bool) → (A → C) → MatchBool b A B → MatchBool b C ⊤
on_true B true f x = f x
on_true B false f x = tt

in_both : (A : Type 0) {B C : Type 0} (b : Bool) → (B → C) → MatchBool b A B → MatchBool b C ⊤ → C
in_both A true f x y = y
in_both A false f x y = f x

pub no_call_weaker : (s : Step) (result : Result (DrawnIds × Reply) StepError) (P Q : Type 0) → (P → Q) → OnNoCall s result P → OnNoCall s result Q
no_call_weaker s (Ok out) P Q f x = on_true _ (calls_nothing s out.1) f x
no_call_weaker s (Err (errors.Fault error handed)) P Q f x = on_true _ (is_unknown error) f x
no_call_weaker s (Err (errors.Ended reason)) P Q f x = f x
no_call_weaker s (Err (errors.Stopped code)) P Q f x = f x
no_call_weaker s (Err errors.NoMemory) P Q f x = f x

-- ---- what is so of a reply

pub on_answered : (h : Held) (old new : Told) (r : List Entry) (s : Step) (result : Result (DrawnIds × Reply) StepError) (P : DrawnIds × Reply → Type 0) → ((out : DrawnIds × Reply) → StepAnswered h old new r s out.0 out.1 → P out) → StepGave h old new r s result → IfOk result P
on_answered h old new r s (Ok out) P f g = f out g
on_answered h old new r s (Err error) P f g = tt

-- ---- what is so of a refusal below

pub on_refused : (h : Held) (old new : Told) (r : List Entry) (s : Step) (result : Result (DrawnIds × Reply) StepError) (P : SessionInnerError → ℕ → Type 0) → ((error : SessionInnerError) (handed : ℕ) → Refused (view_of_record r) old new s (hands r s) error handed → P error handed) → StepGave h old new r s result → IfRefused result P
on_refused h old new r s (Ok out) P f g = tt
on_refused h old new r s (Err (errors.Fault error handed)) P f g = on_false _ (is_unknown error) (f error handed) g
on_refused h old new r s (Err (errors.Ended reason)) P f g = tt
on_refused h old new r s (Err (errors.Stopped code)) P f g = tt
on_refused h old new r s (Err errors.NoMemory) P f g = tt

-- an error that is no refusal below makes no call there
pub on_error : (h : Held) (old new : Told) (r : List Entry) (s : Step) (result : Result (DrawnIds × Reply) StepError) (P : Type 0) → ((error : SessionInnerError) (handed : ℕ) → Refused (view_of_record r) old new s (hands r s) error handed → P) → StepGave h old new r s result → OnNoCall s result P → OnErr result P
on_error h old new r s (Ok out) P f g x = tt
on_error h old new r s (Err (errors.Fault error handed)) P f g x = in_both _ (is_unknown error) (f error handed) g x
on_error h old new r s (Err (errors.Ended reason)) P f g x = x
on_error h old new r s (Err (errors.Stopped code)) P f g x = x
on_error h old new r s (Err errors.NoMemory) P f g x = x

-- ---- unknown ids

dead_unanswered : (v w : View) (old new : Told) (s : Step) (d : List TransactionId) (reply : Reply) → UnderDead v s → StepKeeps v w old new s d reply → ⊥
dead_unanswered v w old new (steps.Frame frame) d reply u x = by_id (txn frame) reply u x.1
  where
    by_id : (o : Option TransactionId) (reply : Reply) → IsDead v o → FrameKeeps v w old new frame o reply → ⊥
    by_id None reply u x = u
    by_id (Some t) (replies.Frames a) u x = let l = x.arrives.was_live in cc (l, u)
    by_id (Some t) _ u x = x
dead_unanswered v w old new _ d reply u x = u

dead_no_fault : (v : View) (s : Step) (handed : List Frame) (error : SessionInnerError) → UnderDead v s → MayFault v s handed error → ⊥
dead_no_fault v (steps.Frame frame) handed error u f = by_id (txn frame) u f
  where
    by_id : (o : Option TransactionId) → IsDead v o → FrameMayFault v frame o → ⊥
    by_id None u f = u
    by_id (Some t) u f = let h = f.0 in cc (h, u)
dead_no_fault v _ handed error u f = u

dead_no_memory : (v : View) (s : Step) → UnderDead v s → takes_memory v s ≡ true → ⊥
dead_no_memory v (steps.Frame frame) u f = by_id (txn frame) u f
  where
    by_id : (o : Option TransactionId) → IsDead v o → is_live_under v o ≡ true → ⊥
    by_id None u f = u
    by_id (Some t) u f = cc (f, u)
dead_no_memory v _ u f = u

dead_no_end : (v : View) (s : Step) (reason : SessionStopReason) → UnderDead v s → ended_by s ≡ Some reason → ⊥
dead_no_end v (steps.Frame frame) reason u e = cc e
dead_no_end v _ reason u e = u

pub step_unknown : (v w : View) (old new : Told) (s : Step) (result : Result (DrawnIds × Reply) StepError) → AnswerKeeps v w old new s result → UnderDead v s → result ≡ Err (errors.Fault faults.UnknownTxnId 0)
step_unknown v w old new s (Ok out) x u = absurd (dead_unanswered v w old new s out.0.ids out.1 u x)
step_unknown v w old new s (Err (errors.Fault faults.UnknownTxnId handed)) x u = ap (λ n. Err (errors.Fault faults.UnknownTxnId n)) x.1
step_unknown v w old new s (Err (errors.Fault error handed)) x u = absurd (dead_no_fault v s (step_hands v s) error u x.fits)
step_unknown v w old new s (Err (errors.Ended reason)) x u = absurd (dead_no_end v s reason u x)
step_unknown v w old new s (Err (errors.Stopped code)) x u = absurd x
step_unknown v w old new s (Err errors.NoMemory) x u = absurd (dead_no_memory v s u x)

pub step_unknown_only : (h : Held) (old new : Told) (r : List Entry) (s : Step) (result : Result (DrawnIds × Reply) StepError) → StepGave h old new r s result → IfUnknown result (λ handed. UnderDead (view_of_record r) s × (handed ≡ 0))
step_unknown_only h old new r s (Ok out) g = tt
step_unknown_only h old new r s (Err (errors.Fault error handed)) g = on_true _ (is_unknown error) (λ x. x) g
step_unknown_only h old new r s (Err (errors.Ended reason)) g = tt
step_unknown_only h old new r s (Err (errors.Stopped code)) g = tt
step_unknown_only h old new r s (Err errors.NoMemory) g = tt

-- ---- ends

pub end_is : (o : Option SessionStopReason) (result : Result (DrawnIds × Reply) StepError) (reason : SessionStopReason) → AnswersEnd o result → o ≡ Some reason → (result ≡ Err (errors.Ended reason)) ⊎ (result ≡ Err errors.NoMemory)
end_is None result reason a e = absurd (cc e)
end_is (Some own) (Ok out) reason a e = absurd a
end_is (Some own) (Err (errors.Fault error handed)) reason a e = absurd a
end_is (Some own) (Err (errors.Ended got)) reason a e = let same : got ≡ reason = cc (a, e) in inl (ap (λ x. Err (errors.Ended x)) same)
end_is (Some own) (Err (errors.Stopped code)) reason a e = absurd a
end_is (Some own) (Err errors.NoMemory) reason a e = inr refl

-- ---- out of memory

pub step_memory : (h : Held) (old new : Told) (r : List Entry) (s : Step) (result : Result (DrawnIds × Reply) StepError) → StepGave h old new r s result → OnNoMemory result (Stands h r × (takes_memory (view_of_record r) s ≡ true))
step_memory h old new r s (Ok out) g = tt
step_memory h old new r s (Err (errors.Fault error handed)) g = tt
step_memory h old new r s (Err (errors.Ended reason)) g = tt
step_memory h old new r s (Err (errors.Stopped code)) g = tt
step_memory h old new r s (Err errors.NoMemory) g = g

pub same_session : {S : Type 0} (old new : TxnSession S) (s : Step) (result : Result (DrawnIds × Reply) StepError) → OnNoMemory result (SameHeld (held_of old) (held_of new)) → OnNoCall s result (below_of new ≡ below_of old) → StopAfter result (stop_of new) → stop_of old ≡ None → OnNoMemory result (SameSession old new)
same_session old new s (Ok out) held below stop runs = tt
same_session old new s (Err (errors.Fault error handed)) held below stop runs = tt
same_session old new s (Err (errors.Ended reason)) held below stop runs = tt
same_session old new s (Err (errors.Stopped code)) held below stop runs = tt
same_session old new s (Err errors.NoMemory) held below stop runs = record { held = held; below = below; stop = stop ∙ sym runs }

-- ---- causes

pub cause_attach : (old new : Told) (s : Step) (result : Result (DrawnIds × Reply) StepError) → StepCause old new s result → OnAttachRefused result (Rose old.refusals new.refusals)
cause_attach old new s (Ok out) c = c.0
cause_attach old new s (Err error) c = tt

pub cause_rose : (old new : Told) (s : Step) (result : Result (DrawnIds × Reply) StepError) → StepCause old new s result → IfRefused result (λ error handed. Rose old.refusals new.refusals)
cause_rose old new s (Ok out) c = tt
cause_rose old new s (Err (errors.Fault error handed)) c = on_false _ (is_unknown error) (λ x. x) c
cause_rose old new s (Err (errors.Ended reason)) c = tt
cause_rose old new s (Err (errors.Stopped code)) c = tt
cause_rose old new s (Err errors.NoMemory) c = tt

pub cause_veto : (old new : Told) (s : Step) (result : Result (DrawnIds × Reply) StepError) → StepCause old new s result → OnVeto result (Rose old.reviews.vetoes new.reviews.vetoes)
cause_veto old new s (Ok out) c = c.1
cause_veto old new s (Err error) c = tt

pub cause_ended : (old new : Told) (s : Step) (result : Result (DrawnIds × Reply) StepError) → StepCause old new s result → IfEnded result (λ reason. ended_by s ≡ Some reason)
cause_ended old new s (Ok out) c = tt
cause_ended old new s (Err (errors.Fault error handed)) c = tt
cause_ended old new s (Err (errors.Ended reason)) c = c
cause_ended old new s (Err (errors.Stopped code)) c = tt
cause_ended old new s (Err errors.NoMemory) c = tt

pub cause_first : (old new : Told) (s : Step) (result : Result (DrawnIds × Reply) StepError) → StepCause old new s result → IfErr result IsFirstStop
cause_first old new s (Ok out) c = tt
cause_first old new s (Err (errors.Fault error handed)) c = tt
cause_first old new s (Err (errors.Ended reason)) c = tt
cause_first old new s (Err (errors.Stopped code)) c = absurd c
cause_first old new s (Err errors.NoMemory) c = tt

attach_only : (r : List Entry) (s : Step) (d : List TransactionId) (error : SessionInnerError) → Answer r s d (replies.AttachRefused error) → IsControlAttach s
attach_only r (steps.Frame frame) d error a = by_id (txn frame) a.1
  where
    by_id : (o : Option TransactionId) → AnswerFrame r frame o (replies.AttachRefused error) → IsControlAttach (steps.Frame frame)
    by_id None x = x
    by_id (Some t) x = absurd x
attach_only r (steps.Control k payload) d error a = absurd (by_open (is_open r k) (message_of payload) a)
  where
    by_open : (b : Bool) (m : Option ControlMessageBody) → AnswerControl r k b m d (replies.AttachRefused error) → ⊥
    by_open false m x = x
    by_open true None x = x
    by_open true (Some (messages.Declare declare)) x = by_global declare.global_id x
      where
        by_global : (o : Option TransactionId) → AnswerDeclare r o d (replies.AttachRefused error) → ⊥
        by_global None y = y
        by_global (Some t) y = y
    by_open true (Some (messages.Discharge discharge)) x = x
attach_only r (steps.LinkEnd k) d error a = absurd (by_open (is_open r k) a.1)
  where
    by_open : (b : Bool) → AnswerLinkEnd b (replies.AttachRefused error) → ⊥
    by_open false x = x
    by_open true x = x
attach_only r (steps.LocalEnd e) d error a = absurd a
attach_only r (steps.RemoteEnd e) d error a = absurd a
attach_only r (steps.ConnectionStop e) d error a = absurd a

by_attach : (before now : ℕ) (r : List Entry) (s : Step) (d : List TransactionId) (reply : Reply) → Answer r s d reply → IfAttachRefused reply (Rose before now) → IfAttachRefused reply (Rose before now × IsControlAttach s)
by_attach before now r s d (replies.AttachRefused error) a c = (c, attach_only r s d error a)
by_attach before now r s d _ a c = tt

pub step_attach : (h : Held) (old new : Told) (r : List Entry) (s : Step) (result : Result (DrawnIds × Reply) StepError) → StepGave h old new r s result → StepCause old new s result → OnAttachRefused result (Rose old.refusals new.refusals × IsControlAttach s)
step_attach h old new r s (Ok out) g c = by_attach old.refusals new.refusals r s out.0.ids out.1 g.answer c.0
step_attach h old new r s (Err error) g c = tt
