-- The index of the log: for each live id, the places of its live cells.
use Rattle.std.specs.Prelude.{ℕ, ◌≡◌, ◌==◌, Bool, true, cond, Option, Some, None, Result, Ok, List, [], ◌∷◌, ◌++◌, ◌+◌, count_by, if◌then◌else◌, is_some, length}
use Rattle.std.specs.List.{IsDistinct}
use Rattle.std.specs.Map.{keys_of, lookup}
use Rattle.amqp_txn_types.specs.declared.items.NoMemory.{NoMemory}
use Rattle.amqp_txn_types.specs.declared.id.TransactionId.{TransactionId}
use Rattle.amqp_txn_types.specs.Ids.{same_id}
use Rattle.amqp_resource_log.specs.declared.cell.Cell.{Cell}
use Rattle.amqp_resource_log.specs.declared.live_id.LiveId.{LiveId}
use Rattle.amqp_resource_log.specs.Cells.{is_dead_cell, places_from}

-- the live ids, each with its link and its places
abbrev pub Index : Type 0
Index = List (TransactionId × LiveId)

-- the places that a look-up found
abbrev pub places_in : Option LiveId → List ℕ
places_in None = []
places_in (Some found) = found.places.items

-- the places that are kept for an id
abbrev pub places_kept : Index → TransactionId → List ℕ
places_kept index id = places_in (lookup (same_id id) index)

-- the live ids, each with its link
abbrev pub homes_in : Index → List (TransactionId × Option ℕ)
homes_in [] = []
homes_in (entry ∷ index) = (entry.0, entry.1.home) ∷ homes_in index

-- with this place after the others, where it was added
abbrev pub places_added : Result Bool NoMemory → ℕ → List ℕ → List ℕ
places_added (Ok true) place places = places ++ place ∷ []
places_added _ place places = places

-- without the first of some places that is this one
abbrev pub without_place : ℕ → List ℕ → List ℕ
without_place place [] = []
without_place place (first ∷ rest) = cond (first == place) rest (first ∷ without_place place rest)

-- without the first place, and with this one after the others
abbrev pub moved_to : ℕ → List ℕ → List ℕ
moved_to place [] = []
moved_to place (first ∷ rest) = rest ++ place ∷ []

-- the places of one id are what this makes of them, and all else is as it was
pub record Written (change : List ℕ → List ℕ) (id : TransactionId) (old new : Index) : Type 0 where
  pub places : (t : TransactionId) → places_kept new t
      ≡ cond (same_id t id) (change (places_kept old t)) (places_kept old t)
  pub homes : homes_in new ≡ homes_in old

-- an id was taken out, with its places
pub record Without (id : TransactionId) (old new : Index) : Type 0 where
  pub places : (t : TransactionId) → places_kept new t ≡ cond (same_id t id) [] (places_kept old t)
  pub homes : (t : TransactionId) → lookup (same_id t) (homes_in new)
      ≡ cond (same_id id t) None (lookup (same_id t) (homes_in old))
  pub distinct : IsDistinct same_id (keys_of (homes_in new))
  pub len : length (homes_in new) + (if is_some (lookup (same_id id) (homes_in old)) then 1 else 0)
      ≡ length (homes_in old)

-- the index gives, for each live id, the places of its live cells, and no cell is live with
-- another id; so many cells are dead
pub record Indexed (list : List Cell) (index : Index) (dead : ℕ) : Type 0 where
  pub places : (t : TransactionId) → places_kept index t ≡ places_from 0 t list
  pub gone : dead ≡ count_by is_dead_cell list
