use Rattle.std.specs.Prelude.{ℕ, ◌+◌, ◌<◌, ◌≤◌, ◌^◌, Bool, true, false, List, [], ◌∷◌, ◌++◌, length, Option, Some, None}
use Rattle.std.specs.Int.{to_be_bytes, w32}

-- the octets spell this id: a binary of at most 32 octets, behind its length in one or in four
-- octets (part 1 of the standard, section 1.6.19; part 4, section 4.5.4)
pub data IsId : List ℕ → List ℕ → Type 0 where
  short : (id : List ℕ) → length id ≤ 32 → IsId id (0xa0 ∷ length id ∷ id)
  long : (id : List ℕ) → length id ≤ 32 → IsId id (0xb0 ∷ to_be_bytes w32 (length id) ++ id)

-- the octets spell this global id, where null is none
pub data IsGlobalId : Option (List ℕ) → List ℕ → Type 0 where
  null : IsGlobalId None (0x40 ∷ [])
  some_id : (id octets : List ℕ) → IsId id octets → IsGlobalId (Some id) octets

-- the octets spell this fail: null, or a boolean in either of its forms (part 1 of the standard,
-- sections 1.6.1 and 1.6.2)
pub data IsFail : Option Bool → List ℕ → Type 0 where
  unsaid : IsFail None (0x40 ∷ [])
  yes : IsFail (Some true) (0x41 ∷ [])
  long_yes : IsFail (Some true) (0x56 ∷ 1 ∷ [])
  no : IsFail (Some false) (0x42 ∷ [])
  long_no : IsFail (Some false) (0x56 ∷ 0 ∷ [])

-- the last octets spell a list of so many fields: its size counts the octets of the count and of
-- the fields (part 1 of the standard, section 1.6.22)
pub data IsList : ℕ → List ℕ → List ℕ → Type 0 where
  empty : IsList 0 [] (0x45 ∷ [])
  short_list : (count : ℕ) (fields : List ℕ)
      → length fields + 1 < 2 ^ 8 → count < 2 ^ 8
      → IsList count fields (0xc0 ∷ (length fields + 1) ∷ count ∷ fields)
  long_list : (count : ℕ) (fields : List ℕ)
      → length fields + 4 < 2 ^ 32 → count < 2 ^ 32
      → IsList count fields
      (0xd0 ∷ to_be_bytes w32 (length fields + 4) ++ (to_be_bytes w32 count ++ fields))

-- so many fields of a declare, and its global id (part 4 of the standard, section 4.5.2)
pub data IsDeclare : ℕ → List ℕ → Option (List ℕ) → Type 0 where
  no_field : IsDeclare 0 [] None
  global_id : (id : Option (List ℕ)) (octets : List ℕ)
      → IsGlobalId id octets → IsDeclare 1 octets id

-- so many fields of a discharge, its id and its fail (part 4 of the standard, section 4.5.3)
pub data IsDischarge : ℕ → List ℕ → List ℕ → Option Bool → Type 0 where
  only_id : (id octets : List ℕ) → IsId id octets → IsDischarge 1 octets id None
  id_and_fail : (id : List ℕ) (fail : Option Bool) (octets more : List ℕ)
      → IsId id octets → IsFail fail more → IsDischarge 2 (octets ++ more) id fail
