-- What a control message puts on its link.
use Rattle.std.specs.Prelude.{◌≡◌, ◌⊎◌, Bool, false, Option, None, Some, Result, Ok, Err}
use Rattle.amqp_txn_types.specs.declared.delivery.DeliveryState.{DeliveryState}
use Rattle.amqp_txn_types.specs.Counts.{Rose}
use Rattle.amqp_txn_codec.specs.declared.message.ControlMessageBody.{ControlMessageBody}
use Rattle.amqp_txn_codec.specs.Canon.{canon}
use Rattle.amqp_links.specs.declared.errors.SendError.{SendError}
use Rattle.amqp_links.specs.declared.sendable.Sendable.{Sendable}
use Rattle.amqp_links.specs.declared.sendable.Sent.{Sent}
use Rattle.amqp_links.specs.Sending.{SenderTold, Sends}
use Rattle.amqp_controller_calls.specs.declared.errors.ControllerSendError.{ControllerSendError}
use Rattle.amqp_controller_calls.specs.declared.errors.ControllerSendError.TheVariants as errors
use Rattle.amqp_controller_calls.specs.Errors.{unsent}

-- a control message as it is sent: its canonical spelling, unsettled (part 4, section 4.1: the
-- controller has to hear the outcome)
abbrev pub control_sendable : ControlMessageBody → Sendable
control_sendable message = record {
  payload = canon message;
  message_format = 0;
  settled = Some false;
}

-- what one send answers and leaves of a link
abbrev pub SendsOn : Type 0 → Type 1
SendsOn L = L → L → Sendable → Option DeliveryState → Bool → Result Sent SendError → Type 0

-- one send, and no other call: what every link tells of it, and what this one says beside
abbrev pub OneSend : {L : Type 0} → SendsOn L → (L → SenderTold) → SendsOn L
OneSend gives told old new sendable state batchable answer =
    Sends (told old) (told new) sendable state batchable answer
    × gives old new sendable state batchable answer

-- what the link answered to a send, by the controller's name for its errors
abbrev pub sent_by : Result Sent SendError → Result Sent ControllerSendError
sent_by (Ok sent) = Ok sent
sent_by (Err refused) = Err (unsent refused)

-- the link was asked to send the message, without a state and not batchable, once
abbrev pub AsksToSend : {L : Type 0} → SendsOn L → L → L → ControlMessageBody
    → Result Sent ControllerSendError → Type 0
AsksToSend sends old new message result =
    (answer : Result Sent SendError) × sends old new (control_sendable message) None false answer
    × (result ≡ sent_by answer)

-- there was no memory for the message's octets, and the link wasn't asked
abbrev pub OutOfMemory : {L : Type 0} → L → L → Result Sent ControllerSendError → Type 0
OutOfMemory old new result = (result ≡ Err errors.NoMemory) × (new ≡ old)

-- a control message is sent
abbrev pub SendsControl : {L : Type 0} → SendsOn L → L → L → ControlMessageBody
    → Result Sent ControllerSendError → Type 0
SendsControl sends old new message result =
    AsksToSend sends old new message result ⊎ OutOfMemory old new result

-- an error, but out of memory, is a fault of the link that is counted
abbrev pub UnsentByFault : Result Sent ControllerSendError → SenderTold → SenderTold → Type 0
UnsentByFault (Ok sent) old new = Unit {0}
UnsentByFault (Err errors.NoMemory) old new = Unit {0}
UnsentByFault (Err error) old new = Rose old.faults new.faults
