-- What the sending end of a link tells, and what each of its calls does to it.
use Rattle.std.specs.Prelude.{ℕ, ◌≡◌, ◌≤◌, Bool, true, false, if◌then◌else◌, Option, Some, None, Result, Ok, Err, List, [], ◌∷◌, ◌++◌, count_by, IfOk, OnErr}
use Rattle.amqp_txn_types.specs.declared.delivery.DeliveryState.{DeliveryState}
use Rattle.amqp_txn_types.specs.declared.small.Token.{Token}
use Rattle.amqp_links.specs.declared.errors.LinkStateError.{LinkStateError}
use Rattle.amqp_links.specs.declared.errors.DetachError.{DetachError}
use Rattle.amqp_links.specs.declared.errors.SendError.{SendError}
use Rattle.amqp_links.specs.declared.messages.SentMessage.{SentMessage}
use Rattle.amqp_links.specs.declared.sendable.Sendable.{Sendable}
use Rattle.amqp_links.specs.declared.sendable.Sent.{Sent}
use Rattle.amqp_links.specs.declared.sendable.Sent.TheVariants as sendings
use Rattle.amqp_links.specs.declared.poll.Poll.{Poll}
use Rattle.amqp_txn_types.specs.Counts.{Rose}
use Rattle.amqp_links.specs.Polls.{polled, OnReadyErr}

-- what the peer answers to an unsettled send
abbrev pub Answer : Type 0
Answer = Result (Option DeliveryState) LinkStateError

-- what a sending end tells: what was put, which answer stands ready under the number of each token,
-- and how often it failed
pub record SenderTold : Type 0 where
  pub put : List SentMessage
  pub ready : ℕ → Option Answer
  pub faults : ℕ

-- the peer is to answer
abbrev pub is_unsettled : Sent → Bool
is_unsettled sendings.Settled = false
is_unsettled (sendings.Unsettled token) = true

-- how many messages were sent unsettled
abbrev pub unsettled_count : List SentMessage → ℕ
unsettled_count put = count_by (λ message. is_unsettled message.sent) put

-- only Some(true) asks that a message be sent settled
abbrev pub asks_settled : Option Bool → Bool
asks_settled None = false
asks_settled (Some settled) = settled

-- how a message is sent after others: its token is the number of those that were sent unsettled
abbrev pub sent_after : List SentMessage → Sendable → Sent
sent_after put sendable =
    if asks_settled sendable.settled
    then sendings.Settled
    else sendings.Unsettled (record { 0 = unsettled_count put })

-- a message as it was sent
abbrev pub as_sent : Sendable → Option DeliveryState → Bool → Sent → SentMessage
as_sent sendable state batchable sent = record {
  sendable = sendable;
  state = state;
  batchable = batchable;
  sent = sent;
}

-- an Ok adds its message, an Err nothing
abbrev pub put_by_send : List SentMessage → Sendable → Option DeliveryState → Bool
    → Result Sent SendError → List SentMessage
put_by_send put sendable state batchable (Ok sent) =
    put ++ as_sent sendable state batchable sent ∷ []
put_by_send put sendable state batchable (Err error) = put

-- a send
pub record Sends (old new : SenderTold) (sendable : Sendable) (state : Option DeliveryState)
    (batchable : Bool) (result : Result Sent SendError) : Type 0 where
  pub put : new.put ≡ put_by_send old.put sendable state batchable result
  pub sent : IfOk result (λ sent. sent ≡ sent_after old.put sendable)
  pub later : old.faults ≤ new.faults
  pub cause : OnErr result (Rose old.faults new.faults)

-- a look for the answer to an unsettled send
pub record Looks (old new : SenderTold) (token : Token) (result : Poll Answer) : Type 0 where
  pub given : result ≡ polled (old.ready token.0)
  pub put : new.put ≡ old.put
  pub later : old.faults ≤ new.faults
  pub cause : OnReadyErr result (Rose old.faults new.faults)

-- a close
pub record Closes (old new : SenderTold) (result : Result Unit DetachError) : Type 0 where
  pub put : new.put ≡ old.put
  pub later : old.faults ≤ new.faults
  pub cause : OnErr result (Rose old.faults new.faults)
