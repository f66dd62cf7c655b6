use Rattle.std.specs.Prelude.{◌≡◌, ℕ, ◌+◌, ◌/◌, ◌≤◌, slice_range, List, [], ◌∷◌, ◌++◌, length, Option, Some, None, if◌then◌else◌, ◌==◌, ◌||◌}
use Rattle.std.specs.Int.{from_be_bytes, w32}

-- what follows a constructor: a fixed number of octets, or a size in one or in four octets and that
-- many octets
pub data Width : Type 0 where
  Fixed : ℕ → Width
  OneOctet : Width
  FourOctets : Width
  NoValue : Width

-- the width by the constructor's high nibble (part 1 of the standard, section 1.2)
unfoldable pub width_of : ℕ → Width
width_of high =
    if high == 4 then Fixed 0 else
    if high == 5 then Fixed 1 else
    if high == 6 then Fixed 2 else
    if high == 7 then Fixed 4 else
    if high == 8 then Fixed 8 else
    if high == 9 then Fixed 16 else
    if high == 10 || high == 12 || high == 14 then OneOctet else
    if high == 11 || high == 13 || high == 15 then FourOctets else NoValue

-- how many octets follow a constructor of this width, as far as they say it themselves; a size is
-- big-endian and doesn't count itself
abbrev pub octets_by : Width → List ℕ → Option ℕ
octets_by (Fixed count) octets = Some count
octets_by OneOctet [] = None
octets_by OneOctet (size ∷ octets) = Some (size + 1)
octets_by FourOctets (first ∷ second ∷ third ∷ fourth ∷ octets) =
    Some (from_be_bytes w32 (first ∷ second ∷ third ∷ fourth ∷ []) + 4)
octets_by FourOctets octets = None
octets_by NoValue octets = None

-- the same by the constructor itself
abbrev pub octets_after : ℕ → List ℕ → Option ℕ
octets_after constructor octets = octets_by (width_of (constructor / 16)) octets

-- the octets are one value: a constructor and as many octets as it says, or 0 and two values, the
-- descriptor and what it describes (part 1 of the standard, section 1.2)
pub data IsValue : List ℕ → Type 0 where
  plain : (constructor : ℕ) (octets : List ℕ)
      → octets_after constructor octets ≡ Some (length octets) → IsValue (constructor ∷ octets)
  described : (descriptor value : List ℕ)
      → IsValue descriptor → IsValue value → IsValue (0 ∷ descriptor ++ value)

-- between these places lies one value
abbrev pub IsValueBetween : List ℕ → ℕ → ℕ → Type 0
IsValueBetween octets at end =
    (at ≤ end) × (end ≤ length octets) × IsValue (slice_range octets at end)
