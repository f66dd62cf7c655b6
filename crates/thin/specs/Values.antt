-- When a value that may be missing is a copy of another.
use Rattle.std.specs.Prelude.{Option, None, Some}

-- both are missing, or neither is and the second is a copy of the first
abbrev pub BothCopied : {X : Type 0} → (X → X → Type 0) → Option X → Option X → Type 0
BothCopied is_clone None None = Unit {0}
BothCopied is_clone None (Some y) = ⊥
BothCopied is_clone (Some x) None = ⊥
BothCopied is_clone (Some x) (Some y) = is_clone x y
