-- What is kept for the live ids: for each the link that declared it, if one did, and its frames.
use Rattle.std.specs.Prelude.{ℕ, ◌≡◌, ◌+◌, ◌<◌, ◌≤◌, ◌∷◌, ◌++◌, Bool, true, false, cond, if◌then◌else◌, Option, Some, None, Result, Ok, Err, List, [], length, is_some}
use Rattle.std.specs.List.{IsDistinct, sum_by}
use Rattle.std.specs.Map.{keys_of, lookup}
use Rattle.std.specs.Option.{option_map}
use Rattle.amqp_txn_types.specs.declared.id.TransactionId.{TransactionId}
use Rattle.amqp_txn_types.specs.declared.items.NoMemory.{NoMemory}
use Rattle.amqp_txn_types.specs.declared.performatives.Frame.{Frame}
use Rattle.amqp_txn_types.specs.Ids.{same_id}
use Rattle.amqp_resource_log.specs.Cells.{Log, dead_count, frames_of, live_ids}

-- the live ids, each with the link that it was declared on
abbrev pub Homes : Type 0
Homes = List (TransactionId × Option ℕ)

-- the live ids with their work: a log, whose live ids they are
abbrev pub Live : Type 0
Live = Log

-- ---- one id

-- the link that declared an id, if one did, and its frames
abbrev pub Kept : Type 0
Kept = Option ℕ × List Frame

-- what is kept for an id: nothing for one that isn't live
abbrev pub kept : Live → TransactionId → Option Kept
kept live id = option_map (λ home. (home, frames_of live id)) (lookup (same_id id) live.homes)

-- the link of what is kept
abbrev pub home_of : Kept → Option ℕ
home_of one = one.0

-- the frames of what is kept; none of an id that isn't live
abbrev pub frames_kept : Option Kept → List Frame
frames_kept None = []
frames_kept (Some one) = one.1

-- one frame more
abbrev pub with_frame : Option Kept → Frame → Option Kept
with_frame None frame = None
with_frame (Some one) frame = Some (one.0, one.1 ++ frame ∷ [])

-- ---- all ids

-- how many frames are kept for the live ids, all together
abbrev pub frame_count : Live → ℕ
frame_count live = sum_by (λ t. length (frames_of live t)) (live_ids live)

-- how many dead cells are yet to be taken out of the log
abbrev pub owed : Live → ℕ
owed live = dead_count live

-- there is room for one more live id
abbrev pub HasPlace : Live → Type 0
HasPlace live = 0 < live.room

-- at least as many more ids can be added without taking memory as before
abbrev pub KeepsPlaces : Live → Live → Type 0
KeepsPlaces old new = old.room ≤ new.room

-- at most one fewer can be
abbrev pub UsesPlace : Live → Live → Type 0
UsesPlace old new = old.room ≤ new.room + 1

-- what is kept is as it was
pub record SameKept (old new : Live) : Type 0 where
  pub kept : (t : TransactionId) → kept new t ≡ kept old t
  pub frames : frame_count new ≡ frame_count old

-- a frame came under an id: it is the last that is kept for it, where that is live; nothing changes
-- where it isn't, and where memory runs out
abbrev pub Keeps : Live → Live → TransactionId → Frame → Result Bool NoMemory → Type 0
Keeps old new id frame (Ok true) =
    (is_some (kept old id) ≡ true) × (frame_count new ≡ frame_count old + 1)
    × ((t : TransactionId) → kept new t ≡ cond (same_id t id) (with_frame (kept old t) frame)
    (kept old t))
Keeps old new id frame (Ok false) = (is_some (kept old id) ≡ false) × (new ≡ old)
Keeps old new id frame (Err error) = new ≡ old

-- an id ended, with all that was kept for it: one look, and one dead cell more, for each frame
pub record LetsGo (old new : Live) (id : TransactionId) (looks now : ℕ) : Type 0 where
  pub ids : length (live_ids new) + (if is_some (kept old id) then 1 else 0)
      ≡ length (live_ids old)
  pub looked : now ≡ looks + length (frames_kept (kept old id))
  pub dead : owed new ≡ owed old + length (frames_kept (kept old id))
  pub frames : frame_count new + length (frames_kept (kept old id)) ≡ frame_count old
  pub room : KeepsPlaces old new
  pub kept : (t : TransactionId) → kept new t ≡ cond (same_id t id) None (kept old t)

-- each id is live once, and nothing is kept for one that isn't live
pub record Agrees (homes : Homes) (log : Log) : Type 0 where
  pub none : (t : TransactionId) → lookup (same_id t) homes ≡ None → frames_of log t ≡ []
  pub distinct : IsDistinct same_id (keys_of homes)
