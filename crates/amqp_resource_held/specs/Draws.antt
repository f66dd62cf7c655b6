-- Ids drawn for a declare.
use Rattle.std.specs.Prelude.{◌≡◌, ◌≤◌, Bool, true, List, [], ◌∷◌, ◌++◌, length, Option, is_some, None}
use Rattle.std.specs.List.{list_all}
use Rattle.amqp_resource_log.specs.Live.{Live, kept, Kept}
use Rattle.amqp_txn_types.specs.declared.id.TransactionId.{TransactionId}

-- something is kept for the id
abbrev pub is_kept : Live → TransactionId → Bool
is_kept live id = is_some (kept live id)

-- these ids are live
abbrev pub all_live : (TransactionId → Option Kept) → List TransactionId → Bool
all_live live ids = list_all (λ t. is_some (live t)) ids

-- 16 ids, all live
pub record DrewLive (live : TransactionId → Option Kept) (drawn : List TransactionId) : Type 0 where
  pub count : length drawn ≡ 16
  pub all : all_live live drawn ≡ true

-- at most 16 ids: live ones, and then one that isn't
pub record DrewUnused (live : TransactionId → Option Kept) (drawn : List TransactionId)
    (id : TransactionId) : Type 0 where
  pub parts : (before : List TransactionId) × (drawn ≡ before ++ id ∷ [])
      × (all_live live before ≡ true)
  pub count : length drawn ≤ 16
  pub unused : live id ≡ None
