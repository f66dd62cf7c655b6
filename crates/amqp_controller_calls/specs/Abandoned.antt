-- What is left of a transaction that is abandoned.
use Rattle.std.specs.Prelude.{ℕ, zero, suc, ◌≡◌, ◌<◌, true, Option, Some, None, Result, Ok, Err}
use Rattle.amqp_txn_types.specs.declared.id.TransactionId.{TransactionId}
use Rattle.amqp_txn_types.specs.declared.small.Token.{Token}
use Rattle.amqp_txn_types.specs.Counts.{Rose}
use Rattle.amqp_txn_codec.specs.declared.message.ControlMessageBody.{ControlMessageBody}
use Rattle.amqp_txn_codec.specs.declared.message.ControlMessageBody.TheVariants as messages
use Rattle.amqp_links.specs.declared.poll.Poll.TheVariants as polls
use Rattle.amqp_links.specs.declared.sendable.Sent.{Sent}
use Rattle.amqp_links.specs.declared.sendable.Sent.TheVariants as sendings
use Rattle.amqp_links.specs.Sending.{Answer, SenderTold}
use Rattle.amqp_controller_calls.specs.declared.errors.ControllerSendError.{ControllerSendError}
use Rattle.amqp_controller_calls.specs.declared.errors.ControllerSendError.TheVariants as errors
use Rattle.amqp_controller_calls.specs.declared.abandon.Abandoned.{Abandoned}
use Rattle.amqp_controller_calls.specs.declared.abandon.Abandoned.TheVariants as ends
use Rattle.amqp_controller_calls.specs.Polls.{LooksOn}
use Rattle.amqp_controller_calls.specs.Sends.{SendsControl, SendsOn}

-- the rollback of a transaction (part 4, section 4.5.3)
abbrev pub rollback_of : TransactionId → ControlMessageBody
rollback_of txn_id = messages.Discharge (record { txn_id = txn_id; fail = Some true })

-- so many looks found no answer, one after another
abbrev pub PendingLooks : {L : Type 0} → LooksOn L → ℕ → Token → L → L → Type 0
PendingLooks looks zero token old new = new ≡ old
PendingLooks {L} looks (suc made) token old new =
    (between : L) × PendingLooks looks made token old between
    × looks between new token polls.Pending

-- a look found this answer, and the looks before it, fewer than so many, found none
pub record FindsWithin {L : Type 0} (looks : LooksOn L) (trials : ℕ) (token : Token) (old new : L)
    (answer : Answer) : Type 0 where
  pub before : ℕ
  pub between : L
  pub fewer : before < trials
  pub pending : PendingLooks looks before token old between
  pub found : looks between new token (polls.Ready answer)

-- looks for an answer until it is there, but at most so many
abbrev pub LooksUpTo : {L : Type 0} → LooksOn L → ℕ → Token → L → L → Option Answer → Type 0
LooksUpTo looks trials token old new None = PendingLooks looks trials token old new
LooksUpTo looks trials token old new (Some answer) = FindsWithin looks trials token old new answer

-- the fact holds where a look found an error
abbrev pub OnFoundErr : Option Answer → Type 0 → Type 0
OnFoundErr None P = Unit {0}
OnFoundErr (Some (Ok state)) P = Unit {0}
OnFoundErr (Some (Err fault)) P = P

-- what became of the rollback, by what the looks found
abbrev pub abandoned_by : Option Answer → Abandoned
abandoned_by None = ends.Unanswered
abandoned_by (Some (Ok state)) = ends.Answered state
abandoned_by (Some (Err fault)) = ends.Failed (errors.LinkStateError fault)

-- the end is that of a rollback that was tried
abbrev pub WasTried : Abandoned → Type 0
WasTried ends.Discharged = ⊥
WasTried ends.RolledBack = ⊥
WasTried ends.Skipped = ⊥
WasTried end = Unit {0}

-- a failure, but where memory runs out, is a fault of the link that is counted
abbrev pub FailsByFault : Abandoned → SenderTold → SenderTold → Type 0
FailsByFault (ends.Failed errors.NoMemory) old new = Unit {0}
FailsByFault (ends.Failed error) old new = Rose old.faults new.faults
FailsByFault end old new = Unit {0}

-- what became of the rollback, by how it was sent
abbrev pub AbandonsSent : {L : Type 0} → LooksOn L → ℕ → L → L → Result Sent ControllerSendError
    → Abandoned → Type 0
AbandonsSent looks trials old new (Err error) result = (result ≡ ends.Failed error) × (new ≡ old)
AbandonsSent looks trials old new (Ok sendings.Settled) result = ⊥
AbandonsSent looks trials old new (Ok (sendings.Unsettled token)) result =
    (found : Option Answer) × LooksUpTo looks trials token old new found
    × (result ≡ abandoned_by found)

-- one rollback is sent, and then its answer is looked for
abbrev pub Abandons : {L : Type 0} → SendsOn L → LooksOn L → L → L → TransactionId → ℕ → Abandoned
    → Type 0
Abandons {L} sends looks old new txn_id trials result =
    (between : L) × (sent : Result Sent ControllerSendError)
    × SendsControl sends old between (rollback_of txn_id) sent
    × AbandonsSent looks trials between new sent result
