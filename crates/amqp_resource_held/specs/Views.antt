-- A view: which ids are live, on which link and with which frames, which links are open, and how
-- many were opened: by a record, or as a session keeps it.
use Rattle.std.specs.Prelude.{ℕ, Bool, ◌≡◌, Option, List, is_some}
use Rattle.amqp_resource_record.specs.declared.entry.Entry.{Entry}
use Rattle.amqp_txn_types.specs.declared.performatives.Frame.{Frame}
use Rattle.amqp_resource_held.specs.declared.held.Held.{Held}
use Rattle.amqp_txn_types.specs.declared.id.TransactionId.{TransactionId}
use Rattle.amqp_resource_record.specs.Links.{attached_count, is_open}
use Rattle.amqp_resource_log.specs.Live.{frames_kept, kept, Kept}
use Rattle.amqp_resource_held.specs.Held.{is_in, is_kept_on, kept_by}

-- the live ids, each with the link that declared it, if one did, and its frames; the open links;
-- and how many were opened
pub record View : Type 0 where
  pub live : TransactionId → Option Kept
  pub links : ℕ → Bool
  pub opened : ℕ

-- what a record says, looking back over its entries
abbrev pub view_of_record : List Entry → View
view_of_record entries =
    record { live = kept_by entries; links = is_open entries; opened = attached_count entries }

-- what a session keeps
abbrev pub view_of_held : Held → View
view_of_held held =
    record { live = kept held.work; links = is_in held.links.entries; opened = held.opened }

-- the id is live
abbrev pub is_live_in : View → TransactionId → Bool
is_live_in view id = is_some (view.live id)

-- the id is live, and this link declared it
abbrev pub is_held_in : View → ℕ → TransactionId → Bool
is_held_in view link id = is_kept_on link (view.live id)

-- the frames under the id
abbrev pub frames_in : View → TransactionId → List Frame
frames_in view id = frames_kept (view.live id)

-- the same of each id
abbrev pub SameLive : View → View → Type 0
SameLive old new = (t : TransactionId) → new.live t ≡ old.live t

-- the same links are open, and as many were opened
pub record SameLinks (old new : View) : Type 0 where
  pub links : (j : ℕ) → new.links j ≡ old.links j
  pub opened : new.opened ≡ old.opened

-- the same of all
pub record SameView (old new : View) : Type 0 where
  pub live : SameLive old new
  pub links : SameLinks old new
