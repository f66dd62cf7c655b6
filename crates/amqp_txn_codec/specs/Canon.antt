use Rattle.std.specs.Prelude.{◌≡◌, ℕ, ◌+◌, Bool, true, false, List, [], ◌∷◌, ◌++◌, length, drop, ◌≤◌, Option, Some, None, IfSome}
use Rattle.amqp_txn_codec.specs.declared.message.ControlMessageBody.{ControlMessageBody}
use Rattle.amqp_txn_codec.specs.declared.message.ControlMessageBody.TheVariants as messages

-- the body alone, with a list of so many fields: an id, and the octets of the field behind it, if
-- any
unfoldable pub with_id : ℕ → ℕ → List ℕ → List ℕ → List ℕ
with_id code count id tail =
    0 ∷ 0x53 ∷ 0x77 ∷ 0 ∷ 0x53 ∷ code ∷ 0xc0 ∷ (length id + length tail + 3) ∷ count ∷
    0xa0 ∷ length id ∷ (id ++ tail)

-- the canonical spelling of a declare
unfoldable pub canon_declare : Option (List ℕ) → List ℕ
canon_declare None = 0 ∷ 0x53 ∷ 0x77 ∷ 0 ∷ 0x53 ∷ 0x31 ∷ 0x45 ∷ []
canon_declare (Some id) = with_id 0x31 1 id []

-- the canonical spelling of a discharge
unfoldable pub canon_discharge : List ℕ → Option Bool → List ℕ
canon_discharge id None = with_id 0x32 1 id []
canon_discharge id (Some true) = with_id 0x32 2 id (0x41 ∷ [])
canon_discharge id (Some false) = with_id 0x32 2 id (0x42 ∷ [])

-- the canonical spelling, the one that is written: no section but the body, and descriptors by the
-- number in one octet
abbrev pub canon : ControlMessageBody → List ℕ
canon (messages.Declare declare) = canon_declare declare.global_id
canon (messages.Discharge discharge) = canon_discharge discharge.txn_id discharge.fail

-- the text is written at the front, and the rest stays
abbrev pub IsWritten : List ℕ → List ℕ → List ℕ → Type 0
IsWritten text old new = new ≡ text ++ drop (length text) old

-- each id that the message holds has at most 32 octets
abbrev pub HoldsShortIds : ControlMessageBody → Type 0
HoldsShortIds (messages.Declare declare) = IfSome declare.global_id (λ id. length id ≤ 32)
HoldsShortIds (messages.Discharge discharge) = length discharge.txn_id ≤ 32
