-- Calls on a link that stands under a lock. No clause can name what the link is before such a call
-- and after it; so each says that there are two such values between which that one call was made.
use Rattle.std.specs.Prelude.{ℕ, ◌≡◌, Bool, Option, Some, Result, Ok, Err}
use Rattle.amqp_txn_types.specs.declared.delivery.DeliveryState.{DeliveryState}
use Rattle.amqp_txn_types.specs.declared.delivery.Error.{Error}
use Rattle.amqp_txn_types.specs.declared.id.TransactionId.{TransactionId}
use Rattle.amqp_txn_types.specs.declared.small.Accepted.{Accepted}
use Rattle.amqp_txn_codec.specs.declared.message.ControlMessageBody.{ControlMessageBody}
use Rattle.amqp_txn_codec.specs.declared.message.ControlMessageBody.TheVariants as messages
use Rattle.amqp_links.specs.declared.errors.DetachError.{DetachError}
use Rattle.amqp_links.specs.declared.sendable.Sent.{Sent}
use Rattle.amqp_links.specs.Sending.{Closes, SenderTold}
use Rattle.amqp_links.specs.declared.progress.Progress.{Progress}
use Rattle.amqp_links.specs.declared.progress.Progress.TheVariants as waits
use Rattle.amqp_controller_calls.specs.declared.abandon.Abandoned.{Abandoned}
use Rattle.amqp_controller_calls.specs.declared.errors.ControllerSendError.{ControllerSendError}
use Rattle.amqp_controller_calls.specs.Abandoned.{Abandons, FailsByFault}
use Rattle.amqp_controller_calls.specs.Polls.{LooksOn, LooksOnce, OneLook, accepted_by, found_of}
use Rattle.amqp_controller_calls.specs.Sends.{OneSend, SendsControl, SendsOn}
use Rattle.amqp_controller_transactions.specs.declared.begun.Begun.{Begun}

-- a declare (part 4, section 4.5.2)
abbrev pub declare_of : Option TransactionId → ControlMessageBody
declare_of global_id = messages.Declare (record { global_id = global_id })

-- the discharge of a transaction, a rollback or a commit (part 4, section 4.5.3)
abbrev pub discharge_of : TransactionId → Bool → ControlMessageBody
discharge_of txn_id fail = messages.Discharge (record { txn_id = txn_id; fail = Some fail })

-- one control message was sent
abbrev pub SendsUnder : {L : Type 0} → SendsOn L → (L → SenderTold) → ControlMessageBody
    → Result Sent ControllerSendError → Type 0
SendsUnder {L} gives told message result =
    (old : L) × (new : L) × SendsControl (OneSend gives told) old new message result

-- one look was made for the outcome of a message, by how that was sent
abbrev pub LooksUnder : {L R : Type 0} → LooksOn L → (L → SenderTold)
    → (DeliveryState → Result R ControllerSendError) → Sent
    → Progress Sent (Result R ControllerSendError) → Type 0
LooksUnder {L} gives told by_state sent found =
    (old : L) × (new : L) × LooksOnce gives told old new sent
    × (found ≡ found_of by_state (told old) sent)

-- one rollback was sent, and then its outcome was looked for
abbrev pub AbandonsUnder : {L : Type 0} → SendsOn L → LooksOn L → (L → SenderTold)
    → TransactionId → ℕ → Abandoned → Type 0
AbandonsUnder {L} sends looks told txn_id trials result =
    (old : L) × (new : L)
    × Abandons (OneSend sends told) (OneLook looks told) old new txn_id trials result
    × FailsByFault result (told old) (told new)

-- what one close answers and leaves of a link
abbrev pub ClosesOn : Type 0 → Type 1
ClosesOn L = L → L → Option Error → Result Unit DetachError → Type 0

-- the discharge of a transaction was sent
abbrev pub DischargesUnder : {L : Type 0} → SendsOn L → (L → SenderTold) → Begun → Bool
    → Result Sent ControllerSendError → Type 0
DischargesUnder gives told begun fail result =
    SendsUnder gives told (discharge_of begun.txn_id fail) result

-- a transaction was given up by a rollback
abbrev pub GivesUpUnder : {L : Type 0} → SendsOn L → LooksOn L → (L → SenderTold) → Begun
    → Abandoned → Type 0
GivesUpUnder sends looks told begun result =
    AbandonsUnder sends looks told begun.txn_id begun.rollback_on_drop_trials result

-- the link was closed once, with an error or without
abbrev pub ClosesUnder : {L : Type 0} → ClosesOn L → (L → SenderTold) → Option Error
    → Result Unit DetachError → Type 0
ClosesUnder {L} gives told error result =
    (old : L) × (new : L) × Closes (told old) (told new) result × gives old new error result

-- what a call answers that hands a value back beside its error
abbrev pub error_of : {T R E : Type 0} → Result R (T × E) → Result R E
error_of (Ok done) = Ok done
error_of (Err refused) = Err refused.1

-- a discharge that was accepted is done
abbrev pub done_by : Progress Sent (Result Accepted ControllerSendError)
    → Progress Sent (Result Unit ControllerSendError)
done_by (waits.Pending wait) = waits.Pending wait
done_by (waits.Ready (Ok accepted)) = waits.Ready (Ok tt)
done_by (waits.Ready (Err error)) = waits.Ready (Err error)

-- a poll of a discharge: one look
abbrev pub PollsUnder : {L : Type 0} → LooksOn L → (L → SenderTold) → Sent
    → Progress Sent (Result Unit ControllerSendError) → Type 0
PollsUnder gives told waiting result =
    (found : Progress Sent (Result Accepted ControllerSendError))
    × LooksUnder gives told accepted_by waiting found × (result ≡ done_by found)
