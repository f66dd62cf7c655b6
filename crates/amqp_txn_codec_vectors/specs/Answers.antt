use Rattle.std.specs.Prelude.{◌≡◌, List, ℕ, ◌++◌, Option, None, Some, Bool, true, false, codes}
use Rattle.hex.specs.Hex.{encode_lower}
use Rattle.amqp_txn_codec.specs.declared.message.ControlMessageBody.{ControlMessageBody}
use Rattle.amqp_txn_codec.specs.declared.message.ControlMessageBody.TheVariants as messages
use Rattle.amqp_txn_codec.specs.Reading.{message_of}

-- the word for a fail: none, true or false
abbrev pub fail_word : Option Bool → List ℕ
fail_word None = codes "none"
fail_word (Some true) = codes "true"
fail_word (Some false) = codes "false"

-- the words for a declare, with or without the id of a global transaction
abbrev pub declare_words : Option (List ℕ) → List ℕ
declare_words None = codes "declare"
declare_words (Some id) = codes "declare-global " ++ encode_lower id

-- the words for a message, or for none
unfoldable pub answer_words : Option ControlMessageBody → List ℕ
answer_words None = codes "not-control"
answer_words (Some (messages.Declare declare)) = declare_words declare.global_id
answer_words (Some (messages.Discharge discharge)) =
    codes "discharge " ++ (encode_lower discharge.txn_id ++ (codes " " ++ fail_word discharge.fail))

-- these words are the answer to the payload
abbrev pub IsAnswer : List ℕ → List ℕ → Type 0
IsAnswer payload stated = answer_words (message_of payload) ≡ stated
