-- What a coordinator answers to a control message.
use Rattle.std.specs.Prelude.{◌≡◌, Result, Ok, Err, List}
use Rattle.amqp_txn_codec.specs.declared.message.ControlMessageBody.{ControlMessageBody}
use Rattle.amqp_txn_codec.specs.declared.message.ControlMessageBody.TheVariants as messages
use Rattle.amqp_txn_codec.specs.declared.message.Declare.{Declare}
use Rattle.amqp_txn_codec.specs.declared.message.Discharge.{Discharge}
use Rattle.amqp_below_layer.specs.declared.answers.Answers.{Answers}
use Rattle.amqp_below_ids.specs.Drawn.{DrawnIds}
use Rattle.amqp_resource_coordinator.specs.declared.errors.CoordinatorError.{CoordinatorError}
use Rattle.amqp_resource_coordinator.specs.declared.outcomes.CoordinatorReply.{CoordinatorReply}
use Rattle.amqp_resource_coordinator.specs.declared.outcomes.CoordinatorReply.TheVariants as replies

-- an answer as a reply; an error stays
abbrev pub as_reply : {T E : Type 0} → (T → CoordinatorReply) → Result T E
    → Result CoordinatorReply E
as_reply reply (Ok answer) = Ok (reply answer)
as_reply reply (Err error) = Err error

-- the answer to a message is that to its declare or its discharge, as the reply of that name
abbrev pub AnswersDelivery : ControlMessageBody
    → (Declare → Result DrawnIds CoordinatorError → Type 0)
    → (Discharge → Result (List Answers) CoordinatorError → Type 0)
    → Result CoordinatorReply CoordinatorError → Type 0
AnswersDelivery (messages.Declare declare) Declares Discharges result =
    (answer : Result DrawnIds CoordinatorError) × Declares declare answer
    × (result ≡ as_reply replies.Declared answer)
AnswersDelivery (messages.Discharge discharge) Declares Discharges result =
    (answer : Result (List Answers) CoordinatorError) × Discharges discharge answer
    × (result ≡ as_reply replies.Discharged answer)
