-- Lists that an object may tell.
use Rattle.std.specs.Prelude.{Option, Some, None, List, ◌++◌}

-- a list that is told grows at its end
abbrev pub grown : {A : Type 0} → Option (List A) → List A → Option (List A)
grown None more = None
grown (Some xs) more = Some (xs ++ more)
