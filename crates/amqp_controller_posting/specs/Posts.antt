-- Posts under a transaction, and what is answered to them. Part 4 of the standard (OASIS AMQP 1.0),
-- section 4.4.1 (Transactional Posting).
use Rattle.std.specs.Prelude.{◌≡◌, ◌⊎◌, Bool, Option, Some, None, Result, Ok, Err}
use Rattle.amqp_txn_types.specs.declared.delivery.DeliveryState.{DeliveryState}
use Rattle.amqp_txn_types.specs.declared.delivery.DeliveryState.TheVariants as states
use Rattle.amqp_txn_types.specs.declared.delivery.Outcome.{Outcome}
use Rattle.amqp_txn_types.specs.declared.delivery.Outcome.TheVariants as outcomes
use Rattle.amqp_txn_types.specs.declared.id.TransactionId.{TransactionId}
use Rattle.amqp_links.specs.declared.errors.SendError.{SendError}
use Rattle.amqp_links.specs.declared.sendable.Sendable.{Sendable}
use Rattle.amqp_links.specs.declared.sendable.Sent.{Sent}
use Rattle.amqp_links.specs.declared.sendable.Sent.TheVariants as sendings
use Rattle.amqp_links.specs.Polls.{polled}
use Rattle.amqp_links.specs.Sending.{Answer, SenderTold}
use Rattle.amqp_links.specs.declared.progress.Progress.{Progress}
use Rattle.amqp_links.specs.declared.progress.Progress.TheVariants as waits
use Rattle.amqp_controller_calls.specs.Polls.{waited}
use Rattle.amqp_controller_calls.specs.Sends.{SendsOn}
use Rattle.amqp_controller_posting.specs.declared.errors.PostError.{PostError}
use Rattle.amqp_controller_posting.specs.declared.errors.PostError.TheVariants as errors
use Rattle.amqp_controller_posting.specs.Errors.{unposted}

-- the state of work under a transaction, with an outcome or without (4.5.6, Transactional State)
abbrev pub under : TransactionId → Option Outcome → DeliveryState
under txn_id outcome =
    states.TransactionalState (record { txn_id = txn_id; outcome = outcome })

-- what the link answered to a post
abbrev pub posted_by : Result Sent SendError → Result Sent PostError
posted_by (Ok sent) = Ok sent
posted_by (Err refused) = Err (unposted refused)

-- a post: one send under the transaction, without an outcome
abbrev pub Posts : {L : Type 0} → SendsOn L → L → L → TransactionId → Sendable → Bool
    → Result Sent PostError → Type 0
Posts sends old new txn_id sendable batchable result =
    (answer : Result Sent SendError)
    × sends old new sendable (Some (under txn_id None)) batchable answer
    × (result ≡ posted_by answer)

-- a post of a copy: without memory for the copy the link isn't asked
abbrev pub PostsCopy : {L : Type 0} → SendsOn L → L → L → TransactionId → Sendable → Bool
    → Result Sent PostError → Type 0
PostsCopy sends old new txn_id sendable batchable result =
    Posts sends old new txn_id sendable batchable result
    ⊎ ((result ≡ Err errors.NoMemory) × (new ≡ old))

-- the outcome in a transactional state: any but Declared, which no post has
abbrev pub outcome_under : Option Outcome → Result Outcome PostError
outcome_under (Some outcomes.Accepted) = Ok outcomes.Accepted
outcome_under (Some (outcomes.Rejected rejected)) = Ok (outcomes.Rejected rejected)
outcome_under (Some outcomes.Released) = Ok outcomes.Released
outcome_under (Some (outcomes.Modified modified)) = Ok (outcomes.Modified modified)
outcome_under outcome = Err errors.IllegalDeliveryState

-- the outcome of a post, by the state that was answered: one under a transaction
abbrev pub outcome_by : DeliveryState → Result Outcome PostError
outcome_by (states.TransactionalState state) = outcome_under state.outcome
outcome_by state = Err errors.IllegalDeliveryState

-- the outcome of a post, by what was answered
abbrev pub outcome_of : Answer → Result Outcome PostError
outcome_of (Err fault) = Err (errors.LinkStateError fault)
outcome_of (Ok None) = Err errors.IllegalDeliveryState
outcome_of (Ok (Some state)) = outcome_by state

-- what a poll finds of a post, by how that was sent: one that was sent settled is accepted
abbrev pub post_found : SenderTold → Sent → Progress Sent (Result Outcome PostError)
post_found told sendings.Settled = waits.Ready (Ok outcomes.Accepted)
post_found told (sendings.Unsettled token) =
    waited (sendings.Unsettled token) outcome_of (polled (told.ready token.0))
