-- Views that are the same, and what a record's view says.
use Rattle.std.proofs.Common.{◌≡◌, ℕ, Bool, true, false, cond, ◌&&◌, Some, None, List, refl, ap}
use Rattle.std.specs.Prelude.{is_some}
use Rattle.std.specs.List.{list_all}
use Rattle.amqp_resource_record.specs.declared.entry.Entry.{Entry}
use Rattle.amqp_resource_held.specs.declared.held.Held.{Held}
use Rattle.amqp_resource_record.specs.Legal.{IsLegal}
use Rattle.amqp_txn_types.specs.declared.id.TransactionId.{TransactionId}
use Rattle.amqp_resource_log.specs.Live.{frames_kept, Kept}
use Rattle.amqp_resource_record.specs.Hands.{frames_of}
use Rattle.amqp_resource_record.specs.Live.{home, is_held_on, is_link, is_live}
use Rattle.amqp_resource_held.specs.Draws.{all_live}
use Rattle.amqp_resource_held.specs.Held.{SameHeld, Stands, Tied, is_kept_on, kept_by}
use Rattle.amqp_resource_held.specs.Views.{SameView, View, frames_in, is_held_in, is_live_in, view_of_held, view_of_record}

-- ---- views that are the same

pub same-view : (v : View) → SameView v v
same-view v = record { live = λ t. refl; links = record { links = λ k. refl; opened = refl } }

-- they are one
pub one-view : (v w : View) → SameView v w → w ≡ v
one-view v w s = λ i. record { live = λ t. s.live t i; links = λ k. s.links.links k i; opened = s.links.opened i }

-- what is kept may stand in other memory
pub view-moved : (h g : Held) → SameHeld h g → SameView (view_of_held h) (view_of_held g)
view-moved h g same = record { live = same.live; links = record { links = λ k. ap is_some (same.links k); opened = same.opened } }

-- a session that stands for a record has its view
pub view-stands : (h : Held) (r : List Entry) → Stands h r → view_of_held h ≡ view_of_record r
view-stands h r s = one-view (view_of_record r) (view_of_held h) (record { live = s.live; links = record { links = s.links; opened = s.opened } })

pub stands-view : (h : Held) (r : List Entry) → IsLegal r → Tied h → SameView (view_of_record r) (view_of_held h) → Stands h r
stands-view h r legal tied s = record { legal = legal; tied = tied; live = s.live; links = s.links.links; opened = s.links.opened }

-- ---- what a record's view says

pub live-record : (r : List Entry) (t : TransactionId) → is_live_in (view_of_record r) t ≡ is_live r t
live-record r t = by_case (is_live r t)
  where
    by_case : (b : Bool) → is_some {T = Kept} (cond b (Some (home r t, frames_of r t)) None) ≡ b
    by_case true = refl
    by_case false = refl

pub all-record : (r : List Entry) (ds : List TransactionId) → all_live (kept_by r) ds ≡ list_all (is_live r) ds
all-record r ds = λ i. list_all (λ t. live-record r t i) ds

pub held-record : (r : List Entry) (k : ℕ) (t : TransactionId) → is_held_in (view_of_record r) k t ≡ is_held_on r k t
held-record r k t = by_case (is_live r t)
  where
    by_case : (b : Bool) → is_kept_on k (cond b (Some (home r t, frames_of r t)) None) ≡ (b && is_link k (home r t))
    by_case true = refl
    by_case false = refl

pub frames-record : (r : List Entry) (t : TransactionId) → is_live r t ≡ true → frames_in (view_of_record r) t ≡ frames_of r t
frames-record r t l = ap (λ b. frames_kept (cond b (Some (home r t, frames_of r t)) None)) l
