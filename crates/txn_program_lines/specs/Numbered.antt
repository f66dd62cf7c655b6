-- Lines that are read one after another, and numbered.
use Rattle.std.specs.Prelude.{ℕ, ◌+◌, Option, Some, None, Result, Ok, Err, List, [], ◌∷◌, ◌++◌}

-- what the lines that follow make of what a line made, or the number of the line that made nothing
abbrev pub then_lines : {S : Type 0} → Option S → ℕ → (S → Result S ℕ) → Result S ℕ
then_lines None number others = Err number
then_lines (Some state) number others = others state

-- what lines make of a state, one after another, or the number of the first line that makes
-- nothing; the first of them has that number
unfoldable pub lines_after :
    {S : Type 0} → (S → List ℕ → Option S) → S → ℕ → List (List ℕ) → Result S ℕ
lines_after reads state number [] = Ok state
lines_after reads state number (line ∷ others) =
    then_lines (reads state line) number (λ next. lines_after reads next (number + 1) others)

-- an item before those of the lines that follow, or the number of the line that spells none
abbrev pub item_then : {A : Type 0} → Option A → ℕ → Result (List A) ℕ → Result (List A) ℕ
item_then None number others = Err number
item_then (Some item) number (Ok more) = Ok (item ∷ more)
item_then (Some item) number (Err bad) = Err bad

-- the items that lines spell, each by itself, or the number of the first line that spells none;
-- the first of them has that number
unfoldable pub items_from :
    {A : Type 0} → (List ℕ → Option A) → ℕ → List (List ℕ) → Result (List A) ℕ
items_from spelled number [] = Ok []
items_from spelled number (line ∷ others) =
    item_then (spelled line) number (items_from spelled (number + 1) others)

-- the items with the one that a line spells at their end
abbrev pub item_appended : {A : Type 0} → List A → Option A → Option (List A)
item_appended items None = None
item_appended items (Some item) = Some (items ++ item ∷ [])

abbrev pub with_item : {A : Type 0} → (List ℕ → Option A) → List A → List ℕ → Option (List A)
with_item spelled items line = item_appended items (spelled line)
