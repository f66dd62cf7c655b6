-- A valid step during which nothing is refused below does what was asked.
use Rattle.std.proofs.Common.{◌≡◌, ℕ, ◌+◌, Bool, true, false, Option, Some, None, Result, Ok, Err, List, [], ◌∷◌, length, refl, sym, ◌∙◌, ap, arith}
use Rattle.std.specs.Prelude.{MatchBool, IfOk}
use Rattle.std.specs.List.{list_all}
use Rattle.amqp_resource_record.specs.Answers.{Answer, AnswerControl, AnswerDeclare, AnswerDischarge, AnswerFrame, AnswerLinkEnd, AnswerMessage}
use Rattle.amqp_below_ids.specs.Ids.{AreNext, Drew}
use Rattle.amqp_txn_codec.specs.declared.message.ControlMessageBody.{ControlMessageBody}
use Rattle.amqp_txn_codec.specs.declared.message.Discharge.{Discharge}
use Rattle.amqp_below_ids.specs.Drawn.{DrawnIds}
use Rattle.amqp_resource_record.specs.declared.entry.Entry.{Entry}
use Rattle.amqp_txn_types.specs.declared.performatives.Frame.{Frame}
use Rattle.amqp_resource_held.specs.declared.held.Held.{Held}
use Rattle.amqp_resource_record.specs.declared.reply.Reply.{Reply}
use Rattle.amqp_txn_types.specs.Counts.{Rose}
use Rattle.amqp_resource_record.specs.declared.step.Step.{Step}
use Rattle.amqp_resource_record.specs.declared.stop.StepError.{StepError}
use Rattle.amqp_below_layer.specs.Told.{Told}
use Rattle.amqp_txn_types.specs.declared.id.TransactionId.{TransactionId}
use Rattle.amqp_resource_record.specs.Valid.{Valid, ValidFrame, ValidDeclare, ValidMessage}
use Rattle.amqp_resource_record.specs.Hands.{hands}
use Rattle.amqp_resource_record.specs.Live.{is_held_on, is_live}
use Rattle.amqp_resource_record.specs.Links.{is_open}
use Rattle.amqp_txn_codec.specs.Reading.{message_of}
use Rattle.amqp_txn_types.specs.Frames.{txn}
use Rattle.amqp_txn_types.specs.declared.small.TransactionError.TheVariants as transaction_errors
use Rattle.amqp_txn_codec.specs.declared.message.ControlMessageBody.TheVariants as messages
use Rattle.amqp_resource_record.specs.declared.step.Step.TheVariants as steps
use Rattle.amqp_resource_record.specs.declared.reply.Reply.TheVariants as replies
use Rattle.amqp_resource_record.specs.declared.reply.RejectText.TheVariants as texts
use Rattle.amqp_resource_record.specs.declared.stop.StepError.TheVariants as errors
use Rattle.amqp_resource_session.specs.Steps.{IfAttachRefused, IfVeto, IsDead, Refused, StepCause, UnderDead, is_unknown}
use Rattle.amqp_resource_held.specs.Views.{view_of_record}
use Rattle.amqp_resource_held.proofs.Views.{live-record}
use Rattle.amqp_resource_session.proofs.Recorded.{StepGave}
use Rattle.amqp_resource_session.specs.Complete.{DoesIt, Completed, InOrder}

-- ids of one stream from one place are the same, if they are as many
pub AreNext-unique : (f : ℕ → TransactionId) (k : ℕ) (xs ys : List TransactionId) → AreNext f k xs → AreNext f k ys → length xs ≡ length ys → xs ≡ ys
AreNext-unique f k [] [] a b h = refl
AreNext-unique f k [] (y ∷ ys) a b h = absurd (omega arith)
AreNext-unique f k (x ∷ xs) [] a b h = absurd (omega arith)
AreNext-unique f k (x ∷ xs) (y ∷ ys) a b h =
    ap (λ z. z ∷ xs) (a.0 ∙ sym b.0) ∙ ap (λ l. y ∷ l) (AreNext-unique f (k + 1) xs ys a.1 b.1 (omega arith))

frame_does : (before now : ℕ) (r : List Entry) (frame : Frame) (o : Option TransactionId) (reply : Reply) → AnswerFrame r frame o reply → IfAttachRefused reply (Rose before now) → (Rose before now → ⊥) → DoesIt reply
frame_does before now r frame o (replies.Frames a) x c q = tt
frame_does before now r frame None (replies.Attached link given) x c q = tt
frame_does before now r frame None (replies.AttachRefused error) x c q = absurd (q c)
frame_does before now r frame None _ x c q = absurd x
frame_does before now r frame (Some t) _ x c q = absurd x

link_end_does : (b : Bool) (reply : Reply) → b ≡ true → AnswerLinkEnd b reply → DoesIt reply
link_end_does true replies.LinkEnded h a = tt
link_end_does true _ h a = absurd a
link_end_does false reply h a = cc h

declare_does : (ids : ℕ → TransactionId) (r : List Entry) (n : List TransactionId) (global : Option TransactionId) (d : List TransactionId) (reply : Reply) → AreNext ids 0 n → length n ≡ 16 → AreNext ids 0 d → ValidDeclare r n global → AnswerDeclare r global d reply → DoesIt reply
declare_does ids r n (Some global) d reply a c e v x = absurd v
declare_does ids r n None d (replies.Declared t) a c e v x = tt
declare_does ids r n None d (replies.Rejected transaction_errors.UnknownId texts.IdsRepeat) a c e v x =
    let same : d ≡ n = AreNext-unique ids 0 d n e a (x.0 ∙ sym c) in
    let all : list_all (is_live r) n ≡ true = ap (list_all (is_live r)) (sym same) ∙ x.1 in cc (all, v)
declare_does ids r n None d _ a c e v x = absurd x

-- no veto was counted
abbrev NoVeto : Reply → Type 0
NoVeto reply = IfVeto reply ⊥

discharge_does : (r : List Entry) (k : ℕ) (discharge : Discharge) (d : List TransactionId) (reply : Reply) → is_held_on r k discharge.txn_id ≡ true → NoVeto reply → AnswerDischarge r k discharge.txn_id discharge.fail d reply → DoesIt reply
discharge_does r k discharge d (replies.Accepted echoes) v q x = tt
discharge_does r k discharge d (replies.Rejected transaction_errors.UnknownId texts.Absent) v q x = let h = x.0 in cc (v, h)
discharge_does r k discharge d (replies.Rejected transaction_errors.Rollback texts.Absent) v q x = absurd q
discharge_does r k discharge d _ v q x = absurd x

message_does : (ids : ℕ → TransactionId) (r : List Entry) (k : ℕ) (n : List TransactionId) (m : Option ControlMessageBody) (d : List TransactionId) (reply : Reply) → AreNext ids 0 n → length n ≡ 16 → AreNext ids 0 d → ValidMessage r k n m → NoVeto reply → AnswerMessage r k m d reply → DoesIt reply
message_does ids r k n None d reply a c e v q x = absurd v
message_does ids r k n (Some (messages.Declare declare)) d reply a c e v q x = declare_does ids r n declare.global_id d reply a c e v x
message_does ids r k n (Some (messages.Discharge discharge)) d reply a c e v q x = discharge_does r k discharge d reply v q x

control_does : (ids : ℕ → TransactionId) (r : List Entry) (k : ℕ) (n : List TransactionId) (b : Bool) (m : Option ControlMessageBody) (d : List TransactionId) (reply : Reply) → AreNext ids 0 n → length n ≡ 16 → AreNext ids 0 d → b ≡ true → ValidMessage r k n m → NoVeto reply → AnswerControl r k b m d reply → DoesIt reply
control_does ids r k n true m d reply a c e h v q x = message_does ids r k n m d reply a c e v q x
control_does ids r k n false m d reply a c e h v q x = cc h

no_veto : (P : Type 0) (reply : Reply) → IfVeto reply P → (P → ⊥) → NoVeto reply
no_veto P (replies.Rejected transaction_errors.Rollback text) c q = q c
no_veto P _ c q = tt

reply_does : (old new : Told) (ids : ℕ → TransactionId) (r : List Entry) (s : Step) (n d : List TransactionId) (reply : Reply) → InOrder old new ids r s n → AreNext ids 0 d → Answer r s d reply → IfAttachRefused reply (Rose old.refusals new.refusals) → IfVeto reply (Rose old.reviews.vetoes new.reviews.vetoes) → DoesIt reply
reply_does old new ids r (steps.Frame frame) n d reply i e a c v = frame_does old.refusals new.refusals r frame (txn frame) reply a.1 c i.quiet
reply_does old new ids r (steps.Control k payload) n d reply i e a c v = control_does ids r k n (is_open r k) (message_of payload) d reply i.next i.count e i.valid.0 i.valid.1 (no_veto _ reply v i.calm) a
reply_does old new ids r (steps.LinkEnd k) n d reply i e a c v = link_end_does (is_open r k) reply i.valid a.1
reply_does old new ids r (steps.LocalEnd error) n d reply i e a c v = absurd i.valid
reply_does old new ids r (steps.RemoteEnd error) n d reply i e a c v = absurd i.valid
reply_does old new ids r (steps.ConnectionStop reason) n d reply i e a c v = absurd i.valid

valid_not_dead : (r : List Entry) (s : Step) (n : List TransactionId) → Valid r s n → UnderDead (view_of_record r) s → ⊥
valid_not_dead r (steps.Frame frame) n v u = by_id (txn frame) v u
  where
    by_id : (o : Option TransactionId) → ValidFrame r o → IsDead (view_of_record r) o → ⊥
    by_id None v u = u
    by_id (Some t) v u = cc (v, u, live-record r t)
valid_not_dead r _ n v u = u

no_fault : (b : Bool) (A B C : Type 0) → (A → ⊥) → (C → ⊥) → MatchBool b A B → (b ≡ false → C) → ⊥
no_fault true A B C f h x y = f x
no_fault false A B C f h x y = h (y refl)

fault_rose : (b : Bool) (A B : Type 0) → MatchBool b A B → b ≡ false → B
fault_rose true A B x h = cc h
fault_rose false A B x h = x

pub complete : (ids : ℕ → TransactionId) (h : Held) (old new : Told) (r : List Entry) (s : Step) (n : List TransactionId) (result : Result (DrawnIds × Reply) StepError) → StepGave h old new r s result → StepCause old new s result → IfOk result (λ out. AreNext ids 0 out.0.ids) → InOrder old new ids r s n → Completed result
complete ids h old new r s n (Ok out) g c d i = reply_does old new ids r s n out.0.ids out.1 i d g.answer c.0 c.1
complete ids h old new r s n (Err errors.NoMemory) g c d i = tt
complete ids h old new r (steps.Frame frame) n (Err (errors.Ended reason)) g c d i = cc g
complete ids h old new r (steps.Control k payload) n (Err (errors.Ended reason)) g c d i = cc g
complete ids h old new r (steps.LinkEnd k) n (Err (errors.Ended reason)) g c d i = cc g
complete ids h old new r (steps.LocalEnd error) n (Err (errors.Ended reason)) g c d i = absurd i.valid
complete ids h old new r (steps.RemoteEnd error) n (Err (errors.Ended reason)) g c d i = absurd i.valid
complete ids h old new r (steps.ConnectionStop stop) n (Err (errors.Ended reason)) g c d i = absurd i.valid
complete ids h old new r s n (Err (errors.Stopped code)) g c d i = absurd c
complete ids h old new r s n (Err (errors.Fault error handed)) g c d i =
    absurd (no_fault (is_unknown error) (UnderDead (view_of_record r) s × (handed ≡ 0)) (Refused (view_of_record r) old new s (hands r s) error handed) (Rose old.refusals new.refusals) (λ x. valid_not_dead r s n i.valid x.0) i.quiet g (fault_rose (is_unknown error) _ (Rose old.refusals new.refusals) c))

pub drew_next : (before after : ℕ → TransactionId) (result : Result (DrawnIds × Reply) StepError) → IfOk result (λ out. Drew before after out.0.ids) → IfOk result (λ out. AreNext before 0 out.0.ids)
drew_next before after (Ok out) d = d.these
drew_next before after (Err error) d = tt
