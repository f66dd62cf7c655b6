-- What a poll finds of a control message.
use Rattle.std.specs.Prelude.{◌≡◌, Some, None, Result, Ok, Err}
use Rattle.amqp_txn_types.specs.declared.delivery.DeliveryState.{DeliveryState}
use Rattle.amqp_txn_types.specs.declared.delivery.DeliveryState.TheVariants as states
use Rattle.amqp_txn_types.specs.declared.delivery.Declared.{Declared}
use Rattle.amqp_txn_types.specs.declared.small.Accepted.{Accepted}
use Rattle.amqp_txn_types.specs.declared.small.Token.{Token}
use Rattle.amqp_links.specs.declared.poll.Poll.{Poll}
use Rattle.amqp_links.specs.declared.poll.Poll.TheVariants as polls
use Rattle.amqp_links.specs.declared.sendable.Sent.{Sent}
use Rattle.amqp_links.specs.declared.sendable.Sent.TheVariants as sendings
use Rattle.amqp_links.specs.Polls.{polled}
use Rattle.amqp_links.specs.Sending.{Answer, Looks, SenderTold}
use Rattle.amqp_links.specs.declared.progress.Progress.{Progress}
use Rattle.amqp_links.specs.declared.progress.Progress.TheVariants as waits
use Rattle.amqp_controller_calls.specs.declared.errors.ControllerSendError.{ControllerSendError}
use Rattle.amqp_controller_calls.specs.declared.errors.ControllerSendError.TheVariants as errors

-- the state of a declare: only Declared is its outcome (part 4, section 4.2)
abbrev pub declared_by : DeliveryState → Result Declared ControllerSendError
declared_by (states.Declared declared) = Ok declared
declared_by (states.Rejected rejected) = Err (errors.Rejected rejected)
declared_by state = Err errors.IllegalDeliveryState

-- the state of a discharge: only Accepted is its outcome (part 4, section 4.3)
abbrev pub accepted_by : DeliveryState → Result Accepted ControllerSendError
accepted_by states.Accepted = Ok (record {})
accepted_by (states.Rejected rejected) = Err (errors.Rejected rejected)
accepted_by state = Err errors.IllegalDeliveryState

-- what was answered to a control message, by what its state says
abbrev pub outcome_of : {R : Type 0} → (DeliveryState → Result R ControllerSendError) → Answer
    → Result R ControllerSendError
outcome_of by_state (Err fault) = Err (errors.LinkStateError fault)
outcome_of by_state (Ok None) = Err errors.NonTerminalDeliveryState
outcome_of by_state (Ok (Some state)) = by_state state

-- a wait goes on where the look was pending, and is over where it found an answer
abbrev pub waited : {W R : Type 0} → W → (Answer → R) → Poll Answer → Progress W R
waited wait outcome polls.Pending = waits.Pending wait
waited wait outcome (polls.Ready answer) = waits.Ready (outcome answer)

-- what a poll finds of a message, by how that was sent: what stands ready on the link under its
-- token; to one that was sent settled no answer comes, and that is illegal
abbrev pub found_of : {R : Type 0} → (DeliveryState → Result R ControllerSendError) → SenderTold
    → Sent → Progress Sent (Result R ControllerSendError)
found_of by_state told sendings.Settled = waits.Ready (Err errors.IllegalDeliveryState)
found_of by_state told (sendings.Unsettled token) =
    waited (sendings.Unsettled token) (outcome_of by_state) (polled (told.ready token.0))

-- what one look answers and leaves of a link
abbrev pub LooksOn : Type 0 → Type 1
LooksOn L = L → L → Token → Poll Answer → Type 0

-- one look, and no other call: what every link tells of it, and what this one says beside
abbrev pub OneLook : {L : Type 0} → LooksOn L → (L → SenderTold) → LooksOn L
OneLook gives told old new token found =
    Looks (told old) (told new) token found × gives old new token found

-- one look for the answer to a message, by how that was sent: none where it was sent settled
abbrev pub LooksOnce : {L : Type 0} → LooksOn L → (L → SenderTold) → L → L → Sent → Type 0
LooksOnce gives told old new sendings.Settled = new ≡ old
LooksOnce gives told old new (sendings.Unsettled token) =
    OneLook gives told old new token (polled ((told old).ready token.0))
