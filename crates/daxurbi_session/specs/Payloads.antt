-- The kinds of control messages.
use Rattle.std.specs.Prelude.{Bool, true, false, Option, Some, None}
use Rattle.amqp_txn_types.specs.declared.id.TransactionId.{TransactionId}
use Rattle.amqp_txn_codec.specs.declared.message.ControlMessageBody.{ControlMessageBody}
use Rattle.amqp_txn_codec.specs.declared.message.ControlMessageBody.TheVariants as messages
use Rattle.daxurbi_session.specs.declared.control_payloads.MessageKind.{MessageKind}
use Rattle.daxurbi_session.specs.declared.control_payloads.MessageKind.TheVariants as kinds

-- the discharge of an id
abbrev pub discharge_of : TransactionId → Option Bool → ControlMessageBody
discharge_of id fail = messages.Discharge (record { txn_id = id; fail = fail })

-- the message of a kind, with its id where it has one
abbrev pub message_of_kind : MessageKind → TransactionId → ControlMessageBody
message_of_kind kinds.Declare id = messages.Declare (record { global_id = None })
message_of_kind kinds.DeclareGlobal id = messages.Declare (record { global_id = Some id })
message_of_kind kinds.Discharge id = discharge_of id None
message_of_kind kinds.Commit id = discharge_of id (Some false)
message_of_kind kinds.Rollback id = discharge_of id (Some true)

-- the kind of a discharge
abbrev pub discharge_kind : Option Bool → MessageKind
discharge_kind None = kinds.Discharge
discharge_kind (Some false) = kinds.Commit
discharge_kind (Some true) = kinds.Rollback

-- the kind of a declare, by its global id
abbrev pub declare_kind : Option TransactionId → MessageKind
declare_kind None = kinds.Declare
declare_kind (Some id) = kinds.DeclareGlobal

-- the kind of a message, and its id: a declare without a global id has none
abbrev pub kind_and_id : ControlMessageBody → MessageKind × Option TransactionId
kind_and_id (messages.Declare declare) = (declare_kind declare.global_id, declare.global_id)
kind_and_id (messages.Discharge discharge) =
    (discharge_kind discharge.fail, Some discharge.txn_id)
