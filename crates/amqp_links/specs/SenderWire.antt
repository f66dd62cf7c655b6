-- The plain sending end of a link.
use Rattle.std.specs.Prelude.{ℕ, ◌≡◌, Bool, if◌then◌else◌, Option, Some, None, Result, Ok, Err, List, [], ◌∷◌, ◌++◌, slice_get, slice_set, option_map}
use Rattle.amqp_txn_types.specs.declared.delivery.DeliveryState.{DeliveryState}
use Rattle.amqp_txn_types.specs.declared.delivery.Error.{Error}
use Rattle.amqp_txn_types.specs.declared.performatives.LinkEnd.{LinkEnd}
use Rattle.amqp_txn_types.specs.declared.small.Token.{Token}
use Rattle.amqp_links.specs.declared.answer_slot.AnswerSlot.{AnswerSlot}
use Rattle.amqp_links.specs.declared.answer_slot.AnswerSlot.TheVariants as slots
use Rattle.amqp_txn_types.specs.declared.calls.Calls.{Calls}
use Rattle.amqp_links.specs.declared.errors.DetachError.{DetachError}
use Rattle.amqp_links.specs.declared.errors.DetachError.TheVariants as detach_errors
use Rattle.amqp_links.specs.declared.errors.LinkStateError.TheVariants as link_errors
use Rattle.amqp_links.specs.declared.errors.SendError.{SendError}
use Rattle.amqp_links.specs.declared.errors.SendError.TheVariants as send_errors
use Rattle.amqp_links.specs.declared.messages.SentMessage.{SentMessage}
use Rattle.amqp_links.specs.declared.poll.Poll.{Poll}
use Rattle.amqp_links.specs.declared.sendable.Sendable.{Sendable}
use Rattle.amqp_links.specs.declared.sendable.Sent.{Sent}
use Rattle.amqp_links.specs.declared.sendable.Sent.TheVariants as sendings
use Rattle.amqp_links.specs.Answers.{answer_in, filled_slot, emptied_slot}
use Rattle.amqp_txn_types.specs.Calls.{is_failing, after_call}
use Rattle.amqp_links.specs.Calls.{FailsAsListed, after_look}
use Rattle.amqp_links.specs.Sending.{Answer, SenderTold, as_sent}

-- a sending wire: the answers stand by the number of their token
pub record SenderWire : Type 0 where
  pub end : LinkEnd
  pub put : List SentMessage
  pub answers : List AnswerSlot
  pub closes : List (Option Error)
  pub calls : Calls

-- what a look finds: IllegalState where the call is to fail, else the answer that was filled in
abbrev pub ready_on : SenderWire → ℕ → Option Answer
ready_on wire number =
    if is_failing wire.calls
    then Some (Err link_errors.IllegalState)
    else answer_in (slice_get wire.answers number)

-- what a wire tells
abbrev pub sender_tells : SenderWire → SenderTold
sender_tells wire = record {
  put = wire.put;
  ready = ready_on wire;
  faults = wire.calls.faults;
}

-- a message that was sent unsettled awaits its answer
abbrev pub awaiting : List AnswerSlot → Sent → List AnswerSlot
awaiting answers sendings.Settled = answers
awaiting answers (sendings.Unsettled token) = answers ++ slots.Awaited ∷ []

-- a wire with one more message
abbrev pub with_message : SenderWire → SentMessage → SenderWire
with_message wire message = record wire {
  put = wire.put ++ message ∷ [];
  answers = awaiting wire.answers message.sent;
}

-- a wire with other numbers of calls that are to fail
abbrev pub with_failing : SenderWire → List ℕ → SenderWire
with_failing wire failing = record wire { calls = record wire.calls { failing = failing } }

-- an Ok adds its message, an Err nothing
abbrev pub with_send : SenderWire → Sendable → Option DeliveryState → Bool → Result Sent SendError
    → SenderWire
with_send wire sendable state batchable (Ok sent) =
    with_message wire (as_sent sendable state batchable sent)
with_send wire sendable state batchable (Err error) = wire

-- a wire after a send
abbrev pub after_send : SenderWire → Sendable → Option DeliveryState → Bool → Result Sent SendError
    → SenderWire
after_send wire sendable state batchable result =
    record (with_send wire sendable state batchable result) { calls = after_call wire.calls result }

-- a send on a wire: it fails where it is to, and is put where it is Ok
abbrev pub SendsOnWire : SenderWire → SenderWire → Sendable → Option DeliveryState → Bool
    → Result Sent SendError → Type 0
SendsOnWire old new sendable state batchable result =
    FailsAsListed (is_failing old.calls) (send_errors.LinkStateError link_errors.IllegalState)
    send_errors.NoMemory result
    × (new ≡ after_send old sendable state batchable result)

-- the slot of a number becomes another, where there is one
abbrev pub with_slot : List AnswerSlot → ℕ → Option AnswerSlot → List AnswerSlot
with_slot answers number None = answers
with_slot answers number (Some slot) = slice_set answers number slot

-- the answers after the one of a number was filled in
abbrev pub filled_at : List AnswerSlot → ℕ → Answer → List AnswerSlot
filled_at answers number answer =
    let filled = option_map (λ slot. filled_slot slot answer) (slice_get answers number) in
    with_slot answers number filled

-- the answers after the one of a number was given
abbrev pub given_at : List AnswerSlot → ℕ → List AnswerSlot
given_at answers number =
    with_slot answers number (option_map emptied_slot (slice_get answers number))

-- a wire after its owner filled in an answer
abbrev pub answered : SenderWire → Token → Answer → SenderWire
answered wire token answer = record wire { answers = filled_at wire.answers token.0 answer }

-- a wire after a look: an answer is given once, and a call that is to fail gives none
abbrev pub looked : SenderWire → Token → Poll Answer → SenderWire
looked wire token result = record wire {
  answers = if is_failing wire.calls then wire.answers else given_at wire.answers token.0;
  calls = after_look wire.calls result;
}

-- an Ok adds its close, an Err nothing
abbrev pub closes_by : List (Option Error) → Option Error → Result Unit DetachError
    → List (Option Error)
closes_by closes error (Ok done) = closes ++ error ∷ []
closes_by closes error (Err failed) = closes

-- a wire after a close
abbrev pub after_close : SenderWire → Option Error → Result Unit DetachError → SenderWire
after_close wire error result = record wire {
  closes = closes_by wire.closes error result;
  calls = after_call wire.calls result;
}

-- a close of a wire: it fails where it is to, and is listed where it is Ok
abbrev pub ClosesOnWire : SenderWire → SenderWire → Option Error → Result Unit DetachError → Type 0
ClosesOnWire old new error result =
    FailsAsListed (is_failing old.calls) detach_errors.IllegalState detach_errors.NoMemory result
    × (new ≡ after_close old error result)
