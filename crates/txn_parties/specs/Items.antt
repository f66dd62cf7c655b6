-- The items of the forward wire: the step that each is, and what a list of them says of one
-- transaction. The sections named here and in the files that follow are those of part 4 of the
-- standard (OASIS AMQP 1.0, Transactions).
use Rattle.std.specs.Prelude.{ℕ, ◌==◌, Bool, true, false, cond, ◌||◌, Option, Some, None, List, [], ◌∷◌}
use Rattle.std.specs.List.{count_by}
use Rattle.amqp_txn_types.specs.Ids.{is_some_id}
use Rattle.amqp_txn_types.specs.declared.id.TransactionId.{TransactionId}
use Rattle.amqp_txn_types.specs.Frames.{txn}
use Rattle.amqp_txn_codec.specs.declared.message.ControlMessageBody.{ControlMessageBody}
use Rattle.amqp_txn_codec.specs.declared.message.ControlMessageBody.TheVariants as messages
use Rattle.amqp_txn_codec.specs.Canon.{canon}
use Rattle.amqp_resource_record.specs.declared.step.Step.{Step}
use Rattle.amqp_resource_record.specs.declared.step.Step.TheVariants as steps
use Rattle.txn_parties.specs.declared.item.Item.{Item}
use Rattle.txn_parties.specs.declared.item.Item.TheVariants as items

-- a declare without a global id (4.5.2, Declare)
abbrev pub declare_message : ControlMessageBody
declare_message = messages.Declare (record { global_id = None })

-- a discharge that says whether it is a rollback (4.5.3, Discharge)
abbrev pub discharge_message : TransactionId → Bool → ControlMessageBody
discharge_message id rollback = messages.Discharge (record { txn_id = id; fail = Some rollback })

-- the step that an item is at the resource; messages are spelled canonically
abbrev pub step_of : Item → Step
step_of (items.Declare number link) = steps.Control link (canon declare_message)
step_of (items.Discharge number link id rollback) =
    steps.Control link (canon (discharge_message id rollback))
step_of (items.LinkEnd link) = steps.LinkEnd link
step_of (items.Frame frame) = steps.Frame frame

-- the declare of the transaction
abbrev pub is_declare : ℕ → Item → Bool
is_declare number (items.Declare other link) = number == other
is_declare number _ = false

-- the discharge of the transaction
abbrev pub is_discharge : ℕ → Item → Bool
is_discharge number (items.Discharge other link id rollback) = number == other
is_discharge number _ = false

-- the end of the link
abbrev pub ends_link : ℕ → Item → Bool
ends_link link (items.LinkEnd ended) = ended == link
ends_link link _ = false

-- what ends the transaction, which was declared on the link: its discharge, or the link's end
abbrev pub item_ends : ℕ → ℕ → Item → Bool
item_ends number link item = is_discharge number item || ends_link link item

-- a frame under the id (4.5.6, Transactional State)
abbrev pub item_under : TransactionId → Item → Bool
item_under id (items.Frame frame) = is_some_id id (txn frame)
item_under id _ = false

-- some transaction's declare
abbrev pub is_any_declare : Item → Bool
is_any_declare (items.Declare other link) = true
is_any_declare _ = false

-- how many transactions were made, which is the number of the next one
abbrev pub made_in : List Item → ℕ
made_in list = count_by is_any_declare list

-- the first that is there
abbrev pub or_else : {A : Type 0} → Option A → Option A → Option A
or_else (Some first) second = Some first
or_else None second = second

-- the link on which the item declares the transaction
abbrev pub declares_on : ℕ → Item → Option ℕ
declares_on number (items.Declare other link) = cond (number == other) (Some link) None
declares_on number _ = None

-- the link on which the transaction is declared, which is that of its controller
abbrev pub controller_in : ℕ → List Item → Option ℕ
controller_in number [] = None
controller_in number (item ∷ list) = or_else (declares_on number item) (controller_in number list)
