-- Numbers that stand twice in a list.
use Rattle.std.specs.Prelude.{ℕ, ◌≡◌, ◌<◌, eqb, false, Option, Some, None, List, length, slice_get}
use Rattle.std.specs.List.{list_any}

-- one number stands at both places, the earlier first
abbrev pub StandsTwice : List ℕ → ℕ → ℕ → Type 0
StandsTwice numbers first again =
    (first < again) × (again < length numbers)
    × (slice_get numbers first ≡ slice_get numbers again)

-- a number stands at this place of a list, or nowhere in it
abbrev pub FindsPlace : List ℕ → ℕ → Option ℕ → Type 0
FindsPlace numbers number None = list_any (eqb number) numbers ≡ false
FindsPlace numbers number (Some place) = slice_get numbers place ≡ Some number
