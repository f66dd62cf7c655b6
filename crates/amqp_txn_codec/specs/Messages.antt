use Rattle.std.specs.Prelude.{◌≡◌, ℕ, Bool, List, ◌∷◌, ◌++◌, Option, codes}
use Rattle.amqp_txn_codec.specs.declared.message.ControlMessageBody.{ControlMessageBody}
use Rattle.amqp_txn_codec.specs.declared.message.ControlMessageBody.TheVariants as messages
use Rattle.amqp_txn_codec.specs.Sections.{Kind, IsDescriptor, SkippedInOrder, IsFooterOrNone, leading, body}
use Rattle.amqp_txn_codec.specs.Fields.{IsList, IsDeclare, IsDischarge}

-- the list of a declare (part 4 of the standard, section 4.5.2)
unfoldable pub declare_list : Kind
declare_list = (0x31, codes "amqp:declare:list")

-- the list of a discharge (part 4 of the standard, section 4.5.3)
unfoldable pub discharge_list : Kind
discharge_list = (0x32, codes "amqp:discharge:list")

-- the octets are the list of this message: 0, its descriptor and the list
pub data IsMessageList : ControlMessageBody → List ℕ → Type 0 where
  declare : (descriptor list fields : List ℕ) (count : ℕ) (global_id : Option (List ℕ))
      → IsDescriptor declare_list.0 declare_list.1 descriptor
      → IsList count fields list → IsDeclare count fields global_id
      → IsMessageList (messages.Declare (record { global_id = global_id }))
      (0 ∷ descriptor ++ list)
  discharge : (descriptor list fields : List ℕ) (count : ℕ) (txn_id : List ℕ) (fail : Option Bool)
      → IsDescriptor discharge_list.0 discharge_list.1 descriptor
      → IsList count fields list → IsDischarge count fields txn_id fail
      → IsMessageList (messages.Discharge (record { txn_id = txn_id; fail = fail }))
      (0 ∷ descriptor ++ list)

-- the octets are the body with this message: 0, the descriptor of amqp-value and the message's list
pub data IsBody : ControlMessageBody → List ℕ → Type 0 where
  amqp_value : (message : ControlMessageBody) (descriptor list : List ℕ)
      → IsDescriptor body.0 body.1 descriptor → IsMessageList message list
      → IsBody message (0 ∷ descriptor ++ list)

-- the octets spell this message: sections that are skipped, the body, and a footer or none (part 3
-- of the standard, section 3.2)
pub record SpellsMessage (bytes : List ℕ) (message : ControlMessageBody) : Type 0 where
  pub before : List ℕ
  pub middle : List ℕ
  pub behind : List ℕ
  pub whole : bytes ≡ before ++ (middle ++ behind)
  pub skipped : SkippedInOrder leading before
  pub message_list : IsBody message middle
  pub end : IsFooterOrNone behind
