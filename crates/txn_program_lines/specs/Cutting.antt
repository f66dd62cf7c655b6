-- Octets that are cut into pieces.
use Rattle.std.specs.Prelude.{ℕ, ◌==◌, Option, Some, None, List, [], ◌∷◌}
use Rattle.std.specs.Borrow.{Bor}
use Rattle.std.specs.List.{slice_split}

-- the pieces of octets that are left, none where nothing is left
abbrev pub pieces_left : ℕ → Option (Bor (List ℕ)) → List (List ℕ)
pieces_left separator None = []
pieces_left separator (Some octets) = slice_split (λ octet. octet == separator) octets.now

-- pieces without a last one that is empty
abbrev pub without_last_empty : List (List ℕ) → List (List ℕ)
without_last_empty [] = []
without_last_empty ([] ∷ []) = []
without_last_empty (piece ∷ pieces) = piece ∷ without_last_empty pieces

-- the lines: each ends at a line feed, and a last one without it isn't empty
abbrev pub lines_of : List ℕ → List (List ℕ)
lines_of octets = without_last_empty (slice_split (λ octet. octet == 10) octets)

-- the words of a line, parted by one space each
abbrev pub words_of : List ℕ → List (List ℕ)
words_of line = slice_split (λ octet. octet == 32) line
