-- What a declare over the lock ends in.
use Rattle.std.specs.Prelude.{◌≡◌, Result, Ok, Err}
use Rattle.amqp_txn_types.specs.declared.delivery.Declared.{Declared}
use Rattle.amqp_links.specs.declared.sendable.Sent.{Sent}
use Rattle.amqp_links.specs.Sending.{SenderTold}
use Rattle.amqp_links.specs.declared.progress.Progress.{Progress}
use Rattle.amqp_links.specs.declared.progress.Progress.TheVariants as waits
use Rattle.amqp_controller_calls.specs.declared.errors.ControllerSendError.{ControllerSendError}
use Rattle.amqp_controller_calls.specs.Polls.{LooksOn, declared_by}
use Rattle.amqp_controller_transactions.specs.declared.begun.Begun.{Begun}
use Rattle.amqp_controller_transactions.specs.Begun.{begun_as}
use Rattle.amqp_controller_transactions.specs.Locked.{LooksUnder}

-- a declare ends as its poll found: the wait goes on as it was, or the transaction of the id that
-- was found was just declared, or that error came
abbrev pub EndsAsFound : {W T E : Type 0} → (T → Begun) → (E → ControllerSendError → Type 0) → W
    → Progress Sent (Result Declared ControllerSendError) → Progress W (Result T E) → Type 0
EndsAsFound begun_of fails_by wait (waits.Pending sent) (waits.Pending waiting) = waiting ≡ wait
EndsAsFound begun_of fails_by wait (waits.Ready (Ok declared)) (waits.Ready (Ok transaction)) =
    begun_of transaction ≡ begun_as declared.txn_id
EndsAsFound begun_of fails_by wait (waits.Ready (Err error)) (waits.Ready (Err refused)) =
    fails_by refused error
EndsAsFound begun_of fails_by wait found result = ⊥

-- a poll of a declare: one look
abbrev pub PollsToBegin : {L W T E : Type 0} → LooksOn L → (L → SenderTold) → (T → Begun)
    → (E → ControllerSendError → Type 0) → Sent → W → Progress W (Result T E) → Type 0
PollsToBegin gives told begun_of fails_by sent wait result =
    (found : Progress Sent (Result Declared ControllerSendError))
    × LooksUnder gives told declared_by sent found
    × EndsAsFound begun_of fails_by wait found result

-- the fact holds of the transaction that was declared
abbrev pub OnBegun : {W T E : Type 0} → Progress W (Result T E) → (T → Type 0) → Type 0
OnBegun (waits.Pending wait) P = Unit {0}
OnBegun (waits.Ready (Ok transaction)) P = P transaction
OnBegun (waits.Ready (Err error)) P = Unit {0}
