-- Lists of places: how often a place stands in one, and whether it rises.
use Rattle.std.specs.Prelude.{ℕ, ◌==◌, ◌+◌, ◌≤◌, List, [], ◌∷◌}
use Rattle.std.specs.List.{count_by}

-- how often the place stands in the list
abbrev pub times : ℕ → List ℕ → ℕ
times place places = count_by (λ (j : ℕ). j == place) places

-- the places rise, from this one on
abbrev pub RisingFrom : ℕ → List ℕ → Type 0
RisingFrom least [] = Unit {0}
RisingFrom least (place ∷ places) = (least ≤ place) × RisingFrom (place + 1) places
