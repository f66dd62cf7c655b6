use Rattle.std.specs.Prelude.{◌≡◌, ℕ, List, [], ◌∷◌, ◌++◌, length, codes, ◌⊎◌}
use Rattle.std.specs.Int.{to_be_bytes, w32, w64}
use Rattle.amqp_txn_codec.specs.Values.{IsValue}

-- a kind of section or of list: the number and the name of its descriptor
abbrev pub Kind : Type 0
Kind = ℕ × List ℕ

-- the sections before the body, in their order: header, delivery-annotations, message-annotations,
-- properties, application-properties (part 3 of the standard, section 3.2)
unfoldable pub leading : List Kind
leading =
    (0x70, codes "amqp:header:list") ∷
    (0x71, codes "amqp:delivery-annotations:map") ∷
    (0x72, codes "amqp:message-annotations:map") ∷
    (0x73, codes "amqp:properties:list") ∷
    (0x74, codes "amqp:application-properties:map") ∷ []

-- the body, an amqp-value section (part 3 of the standard, section 3.2.8)
unfoldable pub body : Kind
body = (0x77, codes "amqp:amqp-value:*")

-- the section behind the body (part 3 of the standard, section 3.2.9)
unfoldable pub footer : Kind
footer = (0x78, codes "amqp:footer:map")

-- the octets spell the descriptor of this number and name: the number in one or in eight octets, or
-- the name behind its length in one or in four (part 1 of the standard, sections 1.6.6 and 1.6.21)
pub data IsDescriptor : ℕ → List ℕ → List ℕ → Type 0 where
  by_octet : (number : ℕ) (name : List ℕ) → IsDescriptor number name (0x53 ∷ number ∷ [])
  by_number : (number : ℕ) (name : List ℕ)
      → IsDescriptor number name (0x80 ∷ to_be_bytes w64 number)
  by_name : (number : ℕ) (name : List ℕ) → IsDescriptor number name (0xa3 ∷ length name ∷ name)
  by_long_name : (number : ℕ) (name : List ℕ)
      → IsDescriptor number name (0xb3 ∷ to_be_bytes w32 (length name) ++ name)

-- the octets are one section of this kind: 0, its descriptor and a value
pub data IsSection : Kind → List ℕ → Type 0 where
  section : (kind : Kind) (descriptor value : List ℕ)
      → IsDescriptor kind.0 kind.1 descriptor → IsValue value
      → IsSection kind (0 ∷ descriptor ++ value)

-- the octets are sections of some of these kinds, in this order and each at most once
pub data SkippedInOrder : List Kind → List ℕ → Type 0 where
  no_more : SkippedInOrder [] []
  left_out : (kind : Kind) (kinds : List Kind) (octets : List ℕ)
      → SkippedInOrder kinds octets → SkippedInOrder (kind ∷ kinds) octets
  skipped : (kind : Kind) (kinds : List Kind) (one octets : List ℕ)
      → IsSection kind one → SkippedInOrder kinds octets
      → SkippedInOrder (kind ∷ kinds) (one ++ octets)

-- the octets are one footer, or none
abbrev pub IsFooterOrNone : List ℕ → Type 0
IsFooterOrNone octets = (octets ≡ []) ⊎ IsSection footer octets
