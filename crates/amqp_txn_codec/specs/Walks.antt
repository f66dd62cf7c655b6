use Rattle.std.specs.Prelude.{◌≡◌, ℕ, suc, zero, ◌+◌, ◌<◌, ◌≤◌, ◌^◌, Bool, true, false, List, [], ◌∷◌, ◌++◌, length, Option, Some, None, ◌⊎◌}
use Rattle.std.specs.Int.{to_be_bytes, w32}
use Rattle.amqp_txn_codec.specs.declared.message.ControlMessageBody.{ControlMessageBody}
use Rattle.amqp_txn_codec.specs.declared.message.ControlMessageBody.TheVariants as messages
use Rattle.amqp_txn_codec.specs.Values.{IsValue}
use Rattle.amqp_txn_codec.specs.Sections.{Kind, IsDescriptor, leading, body, footer}
use Rattle.amqp_txn_codec.specs.Fields.{IsId, IsList, IsDeclare, IsDischarge}
use Rattle.amqp_txn_codec.specs.Messages.{declare_list, discharge_list}

-- the same grammar as the code walks it, by what is left behind each part; a law says that it is
-- the grammar of whole octets

-- what a reader found is so, and where it found nothing nothing is so
abbrev pub Finds : {X : Type 0} → (X → Type 0) → Option X → Type 0
Finds {X} IsSo None = (found : X) → IsSo found → ⊥
Finds {X} IsSo (Some found) = IsSo found

-- behind count values at the front, rest is left
abbrev pub LeavesAfter : ℕ → List ℕ → List ℕ → Type 0
LeavesAfter zero octets rest = octets ≡ rest
LeavesAfter (suc count) octets rest =
    (value others : List ℕ) × (octets ≡ value ++ others) × IsValue value
    × LeavesAfter count others rest

-- what is left behind one value of octets is what is left behind count values of later
pub record IsSameRest (count : ℕ) (later octets : List ℕ) : Type 0 where
  pub out : (rest : List ℕ) → LeavesAfter count later rest → LeavesAfter 1 octets rest
  pub back : (rest : List ℕ) → LeavesAfter 1 octets rest → LeavesAfter count later rest

-- behind the descriptor at the front, rest is left
pub record AfterDescriptor (number : ℕ) (name octets rest : List ℕ) : Type 0 where
  pub spelling : List ℕ
  pub descriptor : IsDescriptor number name spelling
  pub front : octets ≡ spelling ++ rest

-- behind the section at the front, rest is left
pub record AfterSection (number : ℕ) (name octets rest : List ℕ) : Type 0 where
  pub inner : List ℕ
  pub value : List ℕ
  pub begins : octets ≡ 0 ∷ inner
  pub descriptor : AfterDescriptor number name inner value
  pub leaves : LeavesAfter 1 value rest

-- behind some of these sections, in this order and each at most once, rest is left
abbrev pub SkipsTo : List Kind → List ℕ → List ℕ → Type 0
SkipsTo [] octets rest = octets ≡ rest
SkipsTo (kind ∷ kinds) octets rest =
    SkipsTo kinds octets rest
    ⊎ ((mid : List ℕ) × AfterSection kind.0 kind.1 octets mid × SkipsTo kinds mid rest)

-- a section of this kind begins
pub record Begins (kind : Kind) (octets : List ℕ) : Type 0 where
  pub inner : List ℕ
  pub value : List ℕ
  pub begins : octets ≡ 0 ∷ inner
  pub descriptor : AfterDescriptor kind.0 kind.1 inner value

-- the section is taken where there is one
abbrev pub TakesOptional : Kind → List ℕ → List ℕ → Type 0
TakesOptional kind octets rest =
    AfterSection kind.0 kind.1 octets rest
    ⊎ ((rest ≡ octets) × ((other : List ℕ) → AfterSection kind.0 kind.1 octets other → ⊥))

-- behind the id at the front, rest is left
pub record AfterId (octets id rest : List ℕ) : Type 0 where
  pub spelling : List ℕ
  pub binary : IsId id spelling
  pub front : octets ≡ spelling ++ rest

-- behind the list at the front, rest is left
pub record AfterList (octets : List ℕ) (count : ℕ) (fields rest : List ℕ) : Type 0 where
  pub spelling : List ℕ
  pub listed : IsList count fields spelling
  pub front : octets ≡ spelling ++ rest

-- an id of that length at the front of the octets
pub record IsCut (len : ℕ) (octets id rest : List ℕ) : Type 0 where
  pub short : length id ≤ 32
  pub size : length id ≡ len
  pub front : octets ≡ id ++ rest

-- a reader found a number in one octet, and the rest
abbrev pub FoundOctet : List ℕ → ℕ × List ℕ → Type 0
FoundOctet octets found = (octets ≡ found.0 ∷ found.1) × (found.0 < 2 ^ 8)

-- a number in four octets, and the rest
abbrev pub FoundNumber : List ℕ → ℕ × List ℕ → Type 0
FoundNumber octets found = (octets ≡ to_be_bytes w32 found.0 ++ found.1) × (found.0 < 2 ^ 32)

-- an id, and the rest
abbrev pub FoundId : List ℕ → List ℕ × List ℕ → Type 0
FoundId octets found = AfterId octets found.0 found.1

-- an id of that length, and the rest
abbrev pub FoundCut : ℕ → List ℕ → List ℕ × List ℕ → Type 0
FoundCut len octets found = IsCut len octets found.0 found.1

-- the count and the fields of a list, and the rest
abbrev pub FoundList : List ℕ → ℕ × List ℕ × List ℕ → Type 0
FoundList octets found = AfterList octets found.0 found.1 found.2

-- the same behind the list's count, where so many octets of the size are already read
abbrev pub FoundFields : ℕ → ℕ → ℕ → List ℕ → ℕ × List ℕ × List ℕ → Type 0
FoundFields size within count octets found =
    (found.0 ≡ count) × (octets ≡ found.1 ++ found.2) × (length found.1 + within ≡ size)

-- the id and the fail of a discharge
abbrev pub FoundDischarge : ℕ → List ℕ → List ℕ × Option Bool → Type 0
FoundDischarge count fields found = IsDischarge count fields found.0 found.1

-- the list of a declare, or of a discharge
unfoldable pub message_kind : Bool → Kind
message_kind true = declare_list
message_kind false = discharge_list

-- whether a declare's descriptor was found or a discharge's, and the rest
abbrev pub FoundKind : List ℕ → Bool × List ℕ → Type 0
FoundKind octets found =
    AfterDescriptor (message_kind found.0).0 (message_kind found.0).1 octets found.1

-- behind the body at the front, rest is left; it is the list of a declare or of a discharge
pub record AfterBody (octets : List ℕ) (declares : Bool) (count : ℕ) (fields rest : List ℕ)
    : Type 0 where
  pub inner : List ℕ
  pub value : List ℕ
  pub described : List ℕ
  pub list : List ℕ
  pub begins : octets ≡ 0 ∷ inner
  pub descriptor : AfterDescriptor body.0 body.1 inner value
  pub list_begins : value ≡ 0 ∷ described
  pub kind : FoundKind described (declares, list)
  pub listed : AfterList list count fields rest

-- the parts of a body, and the rest
abbrev pub FoundBody : List ℕ → Bool × ℕ × List ℕ × List ℕ → Type 0
FoundBody octets found = AfterBody octets found.0 found.1 found.2 found.3

-- the message that the fields give
pub data GivesMessage : Bool → ℕ → List ℕ → ControlMessageBody → Type 0 where
  declare : (count : ℕ) (fields : List ℕ) (global_id : Option (List ℕ))
      → IsDeclare count fields global_id
      → GivesMessage true count fields (messages.Declare (record { global_id = global_id }))
  discharge : (count : ℕ) (fields txn_id : List ℕ) (fail : Option Bool)
      → IsDischarge count fields txn_id fail
      → GivesMessage false count fields
      (messages.Discharge (record { txn_id = txn_id; fail = fail }))

-- the octets are walked through: the leading sections, the body, and a footer or none
pub record WalksTo (bytes : List ℕ) (message : ControlMessageBody) : Type 0 where
  pub start : List ℕ
  pub end : List ℕ
  pub declares : Bool
  pub count : ℕ
  pub fields : List ℕ
  pub before : SkipsTo leading bytes start
  pub body_after : AfterBody start declares count fields end
  pub behind : SkipsTo (footer ∷ []) end []
  pub gives : GivesMessage declares count fields message
