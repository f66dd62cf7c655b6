-- How many ids an answer may have drawn, and how a copy of them grows.
use Rattle.std.proofs.Common.{◌≡◌, ℕ, zero, suc, ◌+◌, ◌≤◌, add-one, Bool, true, false, Option, Some, None, List, [], ◌∷◌, ◌++◌, length, take, slice_get, refl, sym, ◌∙◌, ap, subst, arith}
use Rattle.std.proofs.lemmas.List.Sums.{count_by-le-length}
use Rattle.amqp_txn_types.specs.declared.id.TransactionId.{TransactionId}
use Rattle.amqp_txn_types.specs.declared.small.AmqpError.TheVariants as amqp_errors
use Rattle.amqp_txn_types.specs.declared.small.TransactionError.TheVariants as transaction_errors
use Rattle.amqp_txn_codec.specs.declared.message.ControlMessageBody.{ControlMessageBody}
use Rattle.amqp_txn_codec.specs.declared.message.ControlMessageBody.TheVariants as messages
use Rattle.amqp_txn_codec.specs.Reading.{message_of}
use Rattle.amqp_resource_record.specs.declared.entry.Entry.{Entry}
use Rattle.amqp_resource_record.specs.declared.step.Step.{Step}
use Rattle.amqp_resource_record.specs.declared.step.Step.TheVariants as steps
use Rattle.amqp_resource_record.specs.declared.reply.Reply.{Reply}
use Rattle.amqp_resource_record.specs.declared.reply.Reply.TheVariants as replies
use Rattle.amqp_resource_record.specs.declared.reply.RejectText.TheVariants as texts
use Rattle.amqp_resource_record.specs.Entries.{is_attached}
use Rattle.amqp_resource_record.specs.Links.{attached_count, is_open}
use Rattle.amqp_resource_record.specs.Answers.{Answer, AnswerControl, AnswerDeclare, AnswerDischarge, AnswerMessage}
use Rattle.amqp_resource_shared.specs.Draws.{most_drawn}

nothing : (d : List TransactionId) (n : ℕ) → d ≡ [] → length d ≤ n
nothing d n e = let P : List TransactionId → Type 0 = λ x. length x ≤ n in subst P (sym e) (omega arith)

few-declare : (r : List Entry) (global : Option TransactionId) (d : List TransactionId) (reply : Reply) → AnswerDeclare r global d reply → length d ≤ 16
few-declare r (Some global) d (replies.Rejected transaction_errors.UnknownId texts.GlobalId) a = nothing d 16 a
few-declare r None d (replies.Declared id) a = a.2
few-declare r None d (replies.Rejected transaction_errors.UnknownId texts.IdsRepeat) a = let e = a.0 in omega (arith, e)
few-declare r global d reply a = absurd a

few-discharge : (r : List Entry) (k : ℕ) (id : TransactionId) (fail : Option Bool) (d : List TransactionId) (reply : Reply) → AnswerDischarge r k id fail d reply → length d ≤ 16
few-discharge r k id fail d (replies.Rejected transaction_errors.UnknownId texts.Absent) a = nothing d 16 a.1
few-discharge r k id fail d (replies.Rejected transaction_errors.Rollback texts.Absent) a = nothing d 16 a.1
few-discharge r k id fail d (replies.Accepted echoes) a = nothing d 16 a.1
few-discharge r k id fail d reply a = absurd a

few-message : (r : List Entry) (k : ℕ) (m : Option ControlMessageBody) (d : List TransactionId) (reply : Reply) → AnswerMessage r k m d reply → length d ≤ 16
few-message r k None d (replies.LinkClosed amqp_errors.NotAllowed) a = nothing d 16 a
few-message r k None d reply a = absurd a
few-message r k (Some (messages.Declare declare)) d reply a = few-declare r declare.global_id d reply a
few-message r k (Some (messages.Discharge discharge)) d reply a = few-discharge r k discharge.txn_id discharge.fail d reply a

few-control : (r : List Entry) (k : ℕ) (b : Bool) (m : Option ControlMessageBody) (d : List TransactionId) (reply : Reply) → AnswerControl r k b m d reply → length d ≤ 16
few-control r k false m d replies.NoLink a = nothing d 16 a
few-control r k false m d reply a = absurd a
few-control r k true m d reply a = few-message r k m d reply a

-- a step draws at most so many
pub few-drawn : (r : List Entry) (s : Step) (d : List TransactionId) (reply : Reply) → Answer r s d reply → length d ≤ most_drawn s
few-drawn r (steps.Frame frame) d reply a = nothing d 0 a.0
few-drawn r (steps.Control k payload) d reply a = few-control r k (is_open r k) (message_of payload) d reply a
few-drawn r (steps.LinkEnd k) d reply a = nothing d 0 a.0
few-drawn r (steps.LocalEnd error) d reply a = absurd a
few-drawn r (steps.RemoteEnd error) d reply a = absurd a
few-drawn r (steps.ConnectionStop reason) d reply a = absurd a

pub few-at_all : (s : Step) → most_drawn s ≤ 16
few-at_all (steps.Frame frame) = omega arith
few-at_all (steps.Control k payload) = omega arith
few-at_all (steps.LinkEnd k) = omega arith
few-at_all (steps.LocalEnd error) = omega arith
few-at_all (steps.RemoteEnd error) = omega arith
few-at_all (steps.ConnectionStop reason) = omega arith

-- no more links were attached than there are entries
pub few-attached : (r : List Entry) → attached_count r ≤ length r
few-attached r = count_by-le-length (λ (e : Entry). is_attached e.reply) r

take-suc : {X : Type 0} (xs : List X) (i : ℕ) (x : X) → slice_get xs i ≡ Some x → take (suc i) xs ≡ take i xs ++ x ∷ []
take-suc [] zero x at = absurd (cc at)
take-suc [] (suc i) x at = absurd (cc at)
take-suc (y ∷ xs) zero x at = let e : y ≡ x = cc at in ap (λ z. z ∷ []) e
take-suc (y ∷ xs) (suc i) x at = ap (λ l. y ∷ l) (take-suc xs i x at)

-- the first so many, with one more
pub take-next : {X : Type 0} (xs : List X) (i : ℕ) (x : X) → slice_get xs i ≡ Some x → take (i + 1) xs ≡ take i xs ++ x ∷ []
take-next xs i x at = rw add-one (take-suc xs i x at)

-- an id more of those that are copied, for which there was room
pub copy-next : (ids copy new : List TransactionId) (place : ℕ) (id : TransactionId) → slice_get ids place ≡ Some id → copy ≡ take place ids → new ≡ copy ++ id ∷ [] → new ≡ take (place + 1) ids
copy-next ids copy new place id at is more = more ∙ (ap (λ l. l ++ id ∷ []) is ∙ sym (take-next ids place id at))

-- how many were copied before an id
pub short-front : (ids : List TransactionId) (place : ℕ) (id : TransactionId) → slice_get ids place ≡ Some id → length (take place ids) ≡ place
short-front [] place id at = absurd (cc at)
short-front (x ∷ ids) zero id at = refl
short-front (x ∷ ids) (suc place) id at = ap suc (short-front ids place id at)
