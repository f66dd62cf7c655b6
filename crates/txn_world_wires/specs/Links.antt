-- The controllers' ends of their control links, and the calls on them that await an answer.
use Rattle.std.specs.Prelude.{ℕ, ◌≡◌, false, Option, Some, None, List, [], ◌∷◌, ◌++◌, length, map, slice_get}
use Rattle.std.specs.Option.{option_map}
use Rattle.amqp_txn_types.specs.declared.small.Token.{Token}
use Rattle.amqp_txn_codec.specs.declared.message.ControlMessageBody.{ControlMessageBody}
use Rattle.amqp_links.specs.declared.answer_slot.AnswerSlot.TheVariants as slots
use Rattle.amqp_links.specs.declared.sendable.Sent.{Sent}
use Rattle.amqp_links.specs.declared.sendable.Sent.TheVariants as sendings
use Rattle.amqp_links.specs.Sending.{as_sent, unsettled_count}
use Rattle.amqp_links.specs.SenderWire.{SenderWire}
use Rattle.amqp_controller_calls.specs.Sends.{control_sendable}
use Rattle.txn_parties.specs.declared.item.Asked.{Asked}
use Rattle.txn_world_wires.specs.declared.control_links.Request.{Request}
use Rattle.txn_world_wires.specs.Answers.{asked_in, sent_of}

-- ---- one end

-- of the end's calls none is to fail, and it has a place for each answer
pub record IsQuiet (end : SenderWire) : Type 0 where
  pub failing : end.calls.failing ≡ []
  pub count : length end.answers ≡ unsettled_count end.put

-- the answer to a message that was sent so is awaited at the end
pub record IsAwaited (end : SenderWire) (sent : Sent) : Type 0 where
  pub token : Token
  pub sent_is : sent ≡ sendings.Unsettled token
  pub slot : slice_get end.answers token.0 ≡ Some slots.Awaited

-- the message was put on the link, unsettled, and its answer is awaited after all others
pub record HasSent (old new : SenderWire) (message : ControlMessageBody) (sent : Sent)
    : Type 0 where
  pub put : new.put ≡ old.put ++ as_sent (control_sendable message) None false sent ∷ []
  pub sent_is : sent ≡ sendings.Unsettled (record { 0 = length old.answers })
  pub answers : new.answers ≡ old.answers ++ slots.Awaited ∷ []
  pub quiet : IsQuiet new

-- nothing was sent
pub record HasNotSent (old new : SenderWire) : Type 0 where
  pub put : new.put ≡ old.put
  pub answers : new.answers ≡ old.answers
  pub quiet : IsQuiet new

-- an answer was filled in for a message that was sent so, and given, and no other was
pub record HasHeard (old new : SenderWire) (sent : Sent) : Type 0 where
  pub put : new.put ≡ old.put
  pub others : (token : Token) (n : ℕ) → sent ≡ sendings.Unsettled token → (n ≡ token.0 → ⊥)
      → slice_get new.answers n ≡ slice_get old.answers n
  pub quiet : IsQuiet new

-- ---- all of them

-- the answer to a request is awaited at the end of its link
pub record IsOpen (ends : List SenderWire) (request : Request) : Type 0 where
  pub end : SenderWire
  pub at : slice_get ends request.link ≡ Some end
  pub awaited : IsAwaited end (sent_of request.call)

-- each answer that a transaction awaits is awaited at the end of the link on which it asked, under
-- a token of its own
pub record AreOpen (ends : List SenderWire) (requests : List (Option Request)) : Type 0 where
  pub quiet : (link : ℕ) (end : SenderWire) → slice_get ends link ≡ Some end → IsQuiet end
  pub each : (number : ℕ) (request : Request) → slice_get requests number ≡ Some (Some request)
      → IsOpen ends request
  pub apart : (m n : ℕ) (one other : Request) → slice_get requests m ≡ Some (Some one)
      → slice_get requests n ≡ Some (Some other) → one.link ≡ other.link
      → sent_of one.call ≡ sent_of other.call → m ≡ n

-- what each transaction asked and awaits
abbrev pub requested : Request → Asked
requested request = asked_in request.call

abbrev pub asked_by_all : List (Option Request) → List (Option Asked)
asked_by_all requests = map (option_map requested) requests
