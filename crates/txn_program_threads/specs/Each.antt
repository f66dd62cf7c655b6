-- Things that are numbered by their places.
use Rattle.std.specs.Prelude.{ℕ, ◌+◌, List, [], ◌∷◌}

-- each thing is as its number says, which is the given one for the first
abbrev pub EachFrom : {X : Type 0} → (ℕ → X → Type 0) → ℕ → List X → Type 0
EachFrom Is number [] = Unit {0}
EachFrom Is number (x ∷ xs) = Is number x × EachFrom Is (number + 1) xs
