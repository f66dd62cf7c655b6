-- What a change does to what a session keeps: to its view, or to the values that stand for it.
use Rattle.std.specs.Prelude.{ℕ, true, false, ◌==◌, ◌≡◌, ◌≤◌, ◌+◌, cond, Some, None, List, []}
use Rattle.amqp_txn_types.specs.declared.id.TransactionId.{TransactionId}
use Rattle.amqp_txn_types.specs.declared.performatives.Frame.{Frame}
use Rattle.amqp_txn_types.specs.Ids.{same_id}
use Rattle.amqp_resource_log.specs.Live.{kept, with_frame}
use Rattle.amqp_resource_held.specs.declared.held.Held.{Held}
use Rattle.amqp_resource_held.specs.Draws.{DrewUnused}
use Rattle.amqp_resource_held.specs.Held.{Tied, ids_on, is_in, kept_without, unless_on}
use Rattle.amqp_resource_held.specs.Views.{SameLinks, SameLive, View, is_held_in, is_live_in}

-- ---- of a view

-- a frame came under a live id: it is the last under it, and every other id has what it had
pub record Arrives (old new : View) (frame : Frame) (id : TransactionId) : Type 0 where
  pub was_live : is_live_in old id ≡ true
  pub live : (t : TransactionId) → new.live t ≡ cond (same_id t id) (with_frame (old.live t) frame)
      (old.live t)
  pub links : SameLinks old new

-- a link was opened, with the next number
pub record Attaches (old new : View) (link : ℕ) : Type 0 where
  pub number : link ≡ old.opened
  pub live : SameLive old new
  pub links : (j : ℕ) → new.links j ≡ cond (old.opened == j) true (old.links j)
  pub opened : new.opened ≡ old.opened + 1

-- a link is open no more, the ids that it declared aren't live, and all else stays
pub record Closes (link : ℕ) (old new : View) : Type 0 where
  pub live : (t : TransactionId) → new.live t ≡ unless_on link (old.live t)
  pub links : (j : ℕ) → new.links j ≡ cond (link == j) false (old.links j)
  pub opened : new.opened ≡ old.opened

-- an id was declared: it is the last drawn, and the first of them that wasn't live; it has the link
-- and no frames, and all else stays
pub record Declares (link : ℕ) (old new : View) (drawn : List TransactionId) (id : TransactionId)
    : Type 0 where
  pub unused : DrewUnused old.live drawn id
  pub live : (t : TransactionId) → new.live t ≡ cond (same_id t id) (Some (Some link, []))
      (old.live t)
  pub links : SameLinks old new

-- a live id that the link declared is live no more, and all else stays
pub record Ends (link : ℕ) (old new : View) (id : TransactionId) : Type 0 where
  pub held : is_held_in old link id ≡ true
  pub live : (t : TransactionId) → new.live t ≡ cond (same_id t id) None (old.live t)
  pub links : SameLinks old new

-- ---- of what is kept

-- the id is live, on no link and with no frames; all else is as it was
pub record Added (old new : Held) (id : TransactionId) : Type 0 where
  pub live : (t : TransactionId) → kept new.work t ≡ cond (same_id t id) (Some (None, []))
      (kept old.work t)
  pub links : (k : ℕ) → ids_on new.links.entries k ≡ ids_on old.links.entries k
  pub opened : new.opened ≡ old.opened

-- the id is live no more; the same links are open, and if the ids of each were the live ids
-- declared on it they still are; all else is as it was
pub record Ended (old new : Held) (id : TransactionId) : Type 0 where
  pub live : (t : TransactionId) → kept new.work t ≡ kept_without id old.work t
  pub links : (k : ℕ) → is_in new.links.entries k ≡ is_in old.links.entries k
  pub tied : Tied old → Tied new
  pub opened : new.opened ≡ old.opened

-- what is kept fits together: the ids of each link are the live ids that were declared on it, and
-- no open link has the number of one that is yet to be opened
pub record Fits (held : Held) : Type 0 where
  pub tied : Tied held
  pub links : (k : ℕ) → held.opened ≤ k → is_in held.links.entries k ≡ false
