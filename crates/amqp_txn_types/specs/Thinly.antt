-- What stands in one pointer: nothing, which is seen as empty, or a text, a list or a map.
use Rattle.std.specs.Prelude.{ℕ, List, [], Option, None, Some, string_bytes}
use Rattle.std.specs.declared.string.String.{String}
use Rattle.indexmap.specs.IndexMap.{IndexMap}

-- the octets of a text
abbrev pub bytes_of : {Z : Type 0} → Option (String Z) → List ℕ
bytes_of None = []
bytes_of (Some text) = string_bytes text

-- the items of a list
abbrev pub items_of : {X : Type 0} → Option (List X) → List X
items_of None = []
items_of (Some list) = list

-- the pairs of a map
abbrev pub entries_of : {K V S : Type 0} → Option (IndexMap K V S) → List (K × V)
entries_of None = []
entries_of (Some map) = map.entries
