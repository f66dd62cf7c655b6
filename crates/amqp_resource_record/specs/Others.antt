-- Steps that have nothing to do with an id.
use Rattle.std.specs.Prelude.{Bool, false, not, Option, Some}
use Rattle.amqp_txn_types.specs.declared.id.TransactionId.{TransactionId}
use Rattle.amqp_txn_types.specs.Frames.{txn}
use Rattle.amqp_txn_codec.specs.declared.message.ControlMessageBody.{ControlMessageBody}
use Rattle.amqp_txn_codec.specs.declared.message.ControlMessageBody.TheVariants as messages
use Rattle.amqp_txn_codec.specs.Reading.{message_of}
use Rattle.amqp_resource_record.specs.declared.step.Step.{Step}
use Rattle.amqp_resource_record.specs.declared.step.Step.TheVariants as steps
use Rattle.amqp_txn_types.specs.Ids.{same_id, is_some_id}

-- the message is a discharge of another id, be it a commit or a rollback
abbrev pub discharges_another : TransactionId → Option ControlMessageBody → Bool
discharges_another id (Some (messages.Discharge discharge)) = not (same_id id discharge.txn_id)
discharges_another id _ = false

-- the step is a frame under another id or under none, or a discharge of another id
abbrev pub is_of_others : TransactionId → Step → Bool
is_of_others id (steps.Frame frame) = not (is_some_id id (txn frame))
is_of_others id (steps.Control link payload) = discharges_another id (message_of payload)
is_of_others id _ = false
