-- The log of the work under live ids: what came, in the order in which it came.
use Rattle.std.specs.Prelude.{ℕ, ◌≡◌, ◌≤◌, ◌+◌, Bool, true, false, not, cond, if◌then◌else◌, Option, Some, None, Result, Ok, List, [], ◌∷◌, ◌++◌, filter, count_by, is_some, length, map, nat_lt, slice_get, slice_set}
use Rattle.std.specs.List.{IsDistinct, list_any, filter_map}
use Rattle.std.specs.Map.{keys_of, lookup}
use Rattle.amqp_txn_types.specs.declared.items.NoMemory.{NoMemory}
use Rattle.amqp_txn_types.specs.declared.id.TransactionId.{TransactionId}
use Rattle.amqp_txn_types.specs.declared.frames.TxnWorkFrame.{TxnWorkFrame}
use Rattle.amqp_txn_types.specs.declared.performatives.Frame.{Frame}
use Rattle.amqp_txn_types.specs.Ids.{same_id}
use Rattle.amqp_txn_types.specs.Works.{frame_of_work}
use Rattle.amqp_resource_log.specs.declared.cell.Cell.{Cell}
use Rattle.amqp_resource_log.specs.declared.cell.Cell.TheVariants as cells

-- the log: its cells, in the order in which they came, the live ids, each with the link that it
-- was declared on, if it was on one, and how many more can be added without taking memory
pub record Log : Type 0 where
  pub cells : List Cell
  pub homes : List (TransactionId × Option ℕ)
  pub room : ℕ

-- the cells of the log, and how many more fit without taking memory
pub record Listing : Type 0 where
  pub cells : List Cell
  pub room : ℕ

-- ---- one cell

-- the cell is live
abbrev pub is_live_cell : Cell → Bool
is_live_cell (cells.Live id work) = true
is_live_cell cells.Dead = false

-- the cell is dead: its work was taken
abbrev pub is_dead_cell : Cell → Bool
is_dead_cell cell = not (is_live_cell cell)

-- the cell is live with this id
abbrev pub is_under : TransactionId → Cell → Bool
is_under id (cells.Live own work) = same_id id own
is_under id cells.Dead = false

-- the work of a live cell
abbrev pub work_of : Cell → Option TxnWorkFrame
work_of (cells.Live id work) = Some work
work_of cells.Dead = None

-- the id of a live cell
abbrev pub id_of : Cell → Option TransactionId
id_of (cells.Live id work) = Some id
id_of cells.Dead = None

-- the work of the live cell at a place
abbrev pub work_in : Option Cell → Option TxnWorkFrame
work_in None = None
work_in (Some cell) = work_of cell

abbrev pub work_at : List Cell → ℕ → Option TxnWorkFrame
work_at list place = work_in (slice_get list place)

-- the frame of a cell that is live with this id
abbrev pub frame_under : TransactionId → Cell → Option Frame
frame_under id (cells.Live own work) = cond (same_id id own) (Some (frame_of_work work)) None
frame_under id cells.Dead = None

-- ---- an id

-- the places of the live cells of an id, rising, counted from this one
abbrev pub places_from : ℕ → TransactionId → List Cell → List ℕ
places_from place id [] = []
places_from place id (cell ∷ rest) =
    cond (is_under id cell) (place ∷ places_from (place + 1) id rest)
    (places_from (place + 1) id rest)

-- the places of the live cells of an id, rising
abbrev pub places : Log → TransactionId → List ℕ
places log id = places_from 0 id log.cells

-- the frames that are kept for an id, in the order in which they came
abbrev pub frames_in : List Cell → TransactionId → List Frame
frames_in list id = filter_map (frame_under id) list

-- the same of the log
abbrev pub frames_of : Log → TransactionId → List Frame
frames_of log id = frames_in log.cells id

-- the live ids
abbrev pub live_ids : Log → List TransactionId
live_ids log = keys_of log.homes

-- the id is live
abbrev pub is_live : Log → TransactionId → Bool
is_live log id = list_any (same_id id) (live_ids log)

-- ---- the log

-- how many cells are live, and how many are dead
abbrev pub live_count : Log → ℕ
live_count log = count_by is_live_cell log.cells

abbrev pub dead_count : Log → ℕ
dead_count log = count_by is_dead_cell log.cells

-- the cells and the live ids are as they were
pub record SameLog (old new : Log) : Type 0 where
  pub cells : new.cells ≡ old.cells
  pub homes : new.homes ≡ old.homes

-- the log with one more live cell, at its end
abbrev pub with_arrival : Log → TransactionId → TxnWorkFrame → Log
with_arrival log id work = record log { cells = log.cells ++ cells.Live id work ∷ [] }

-- the log once work came, by whether its id is live and memory was there
abbrev pub arrived : Result Bool NoMemory → Log → TransactionId → TxnWorkFrame → Log
arrived (Ok true) log id work = with_arrival log id work
arrived _ log id work = log

-- the log with a dead cell at this place
abbrev pub without_work : Log → ℕ → Log
without_work log place = record log { cells = slice_set log.cells place cells.Dead }

-- the log without its dead cells
abbrev pub closed_up : Log → Log
closed_up log = record log { cells = filter is_live_cell log.cells }

-- the log, without its dead cells where they are more than the live ones
abbrev pub compacted : Log → Log
compacted log = cond (nat_lt (live_count log) (dead_count log)) (closed_up log) log

-- ---- work taken out of the log

-- some frames, after the one of the work that was taken, if any
abbrev pub after_taken : Option TxnWorkFrame → List Frame → List Frame
after_taken None frames = frames
after_taken (Some work) frames = frame_of_work work ∷ frames

-- the cells, with a dead one in place of each that is live with this id
abbrev pub emptied : TransactionId → List Cell → List Cell
emptied id list = map (λ c. cond (is_under id c) cells.Dead c) list

-- an id ended, and all its work was taken; all else is as it was
pub record EndsId (id : TransactionId) (old new : Log) : Type 0 where
  pub cells : new.cells ≡ emptied id old.cells
  pub homes : (t : TransactionId) → lookup (same_id t) new.homes
      ≡ cond (same_id id t) None (lookup (same_id t) old.homes)
  pub distinct : IsDistinct same_id (keys_of new.homes)
  pub len : length new.homes + (if is_some (lookup (same_id id) old.homes) then 1 else 0)
      ≡ length old.homes
  pub room : old.room ≤ new.room
