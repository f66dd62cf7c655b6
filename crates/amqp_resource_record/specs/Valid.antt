-- Valid steps: those that a session answers by doing what was asked, unless the layer below
-- refuses.
use Rattle.std.specs.Prelude.{ℕ, ◌≡◌, true, false, Option, Some, None, List}
use Rattle.std.specs.List.{list_all}
use Rattle.amqp_txn_types.specs.declared.id.TransactionId.{TransactionId}
use Rattle.amqp_txn_types.specs.Frames.{txn}
use Rattle.amqp_txn_codec.specs.declared.message.ControlMessageBody.{ControlMessageBody}
use Rattle.amqp_txn_codec.specs.declared.message.ControlMessageBody.TheVariants as messages
use Rattle.amqp_txn_codec.specs.Reading.{message_of}
use Rattle.amqp_resource_record.specs.declared.step.Step.{Step}
use Rattle.amqp_resource_record.specs.declared.step.Step.TheVariants as steps
use Rattle.amqp_resource_record.specs.declared.entry.Entry.{Entry}
use Rattle.amqp_resource_record.specs.Links.{is_open}
use Rattle.amqp_resource_record.specs.Live.{is_live, is_held_on}

-- a frame under no id, which is plain or a coordinator attach, or a frame under a live id
abbrev pub ValidFrame : List Entry → Option TransactionId → Type 0
ValidFrame entries None = Unit {0}
ValidFrame entries (Some id) = is_live entries id ≡ true

-- a declare without a global id, one of the next ids not being live
abbrev pub ValidDeclare : List Entry → List TransactionId → Option TransactionId → Type 0
ValidDeclare entries next None = list_all (is_live entries) next ≡ false
ValidDeclare entries next (Some global) = ⊥

-- such a declare, or the discharge of a live id on its home
abbrev pub ValidMessage : List Entry → ℕ → List TransactionId → Option ControlMessageBody → Type 0
ValidMessage entries link next (Some (messages.Declare declare)) =
    ValidDeclare entries next declare.global_id
ValidMessage entries link next (Some (messages.Discharge discharge)) =
    is_held_on entries link discharge.txn_id ≡ true
ValidMessage entries link next None = ⊥

-- valid step after the record, the next 16 ids of the source being these (4.2 to 4.4)
abbrev pub Valid : List Entry → Step → List TransactionId → Type 0
Valid entries (steps.Frame frame) next = ValidFrame entries (txn frame)
Valid entries (steps.Control link payload) next =
    (is_open entries link ≡ true) × ValidMessage entries link next (message_of payload)
Valid entries (steps.LinkEnd link) next = is_open entries link ≡ true
Valid entries _ next = ⊥
