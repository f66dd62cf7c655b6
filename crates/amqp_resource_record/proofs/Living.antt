-- Which ids live, with one entry more.
use Rattle.std.proofs.Common.{◌≡◌, ℕ, suc, ◌+◌, ◌<◌, Bool, true, false, cond, not, ◌&&◌, ◌||◌, Option, Some, None, List, [], ◌∷◌, ◌++◌, length, drop, refl, sym, ◌∙◌, ap, append-nil, append_assoc}
use Rattle.std.specs.List.{list_any}
use Rattle.std.proofs.lemmas.Bool.{and_parts, and_right}
use Rattle.std.proofs.lemmas.List.{drop-append-le}
use Rattle.amqp_txn_types.specs.declared.id.TransactionId.{TransactionId}
use Rattle.amqp_resource_record.specs.declared.entry.Entry.{Entry}
use Rattle.amqp_resource_record.specs.declared.step.Step.{Step}
use Rattle.amqp_resource_record.specs.declared.step.Step.TheVariants as steps
use Rattle.amqp_resource_record.specs.declared.reply.Reply.{Reply}
use Rattle.amqp_resource_record.specs.declared.reply.Reply.TheVariants as replies
use Rattle.amqp_resource_record.specs.Entries.{declares, discharges, reply_declares, step_discharges, is_under}
use Rattle.amqp_resource_record.specs.Live.{since, home, undischarged, is_live, is_open_at, frame_places, frame_places_from, places_from}
use Rattle.amqp_resource_record.proofs.Places.{places_from-snoc}
use Rattle.amqp_resource_record.proofs.Looking.{since-other, since-below, home-other, undischarged-other}

pub live-at : (r : List Entry) (t : TransactionId) → is_live r t ≡ (undischarged r t && is_open_at r (home r t))
unfolding is_live
live-at r t = refl

pub live_undischarged : (r : List Entry) (t : TransactionId) → is_live r t ≡ true → undischarged r t ≡ true
live_undischarged r t h = (and_parts (undischarged r t) (is_open_at r (home r t)) (sym (live-at r t) ∙ h)).0

pub live_open : (r : List Entry) (t : TransactionId) → is_live r t ≡ true → is_open_at r (home r t) ≡ true
live_open r t h = (and_parts (undischarged r t) (is_open_at r (home r t)) (sym (live-at r t) ∙ h)).1

pub ended_dead : (r : List Entry) (t : TransactionId) → undischarged r t ≡ false → is_live r t ≡ false
ended_dead r t h = live-at r t ∙ ap (λ b. b && is_open_at r (home r t)) h

-- whether the id is live after an entry that doesn't declare it
pub live-other : (r : List Entry) (e : Entry) (t : TransactionId) → declares t e ≡ false → is_live (r ++ e ∷ []) t ≡ ((undischarged r t && not (discharges t e)) && is_open_at (r ++ e ∷ []) (home r t))
live-other r e t d =
    live-at (r ++ e ∷ []) t
    ∙ ap (λ k. undischarged (r ++ e ∷ []) t && is_open_at (r ++ e ∷ []) k) (home-other r e t d)
    ∙ ap (λ b. b && is_open_at (r ++ e ∷ []) (home r t)) (undischarged-other r e t d)

-- an entry that neither declares nor discharges the id, nor touches its home, leaves it live or not
pub live-same : (r : List Entry) (e : Entry) (t : TransactionId) → declares t e ≡ false → discharges t e ≡ false → (undischarged r t ≡ true → is_open_at (r ++ e ∷ []) (home r t) ≡ is_open_at r (home r t)) → is_live (r ++ e ∷ []) t ≡ is_live r t
live-same r e t d x o =
    live-other r e t d ∙ ap (λ b. (undischarged r t && not b) && is_open_at (r ++ e ∷ []) (home r t)) x
    ∙ and_same (undischarged r t) (is_open_at (r ++ e ∷ []) (home r t)) (is_open_at r (home r t)) o ∙ sym (live-at r t)
  where
    and_same : (a b c : Bool) → (a ≡ true → b ≡ c) → ((a && true) && b) ≡ (a && c)
    and_same true b c h = h refl
    and_same false b c h = refl

frame_places_from-same : (r : List Entry) (e : Entry) (t : TransactionId) (o : Option ℕ) → ((n : ℕ) → o ≡ Some n → n < length r) → is_under t e ≡ false → frame_places_from (r ++ e ∷ []) t o ≡ frame_places_from r t o
frame_places_from-same r e t None h u = refl
frame_places_from-same r e t (Some n) h u =
    let below : n < length r = h n refl in
    ap (places_from (suc n) (is_under t)) (drop-append-le (suc n) r (e ∷ []) below)
    ∙ places_from-snoc (suc n) (is_under t) (drop (suc n) r) e
    ∙ ap (λ b. places_from (suc n) (is_under t) (drop (suc n) r) ++ cond b ((suc n + length (drop (suc n) r)) ∷ []) []) u
    ∙ append-nil (places_from (suc n) (is_under t) (drop (suc n) r))

-- an entry that neither declares the id nor is a frame under it leaves its places
pub places-same : (r : List Entry) (e : Entry) (t : TransactionId) → declares t e ≡ false → is_under t e ≡ false → frame_places (r ++ e ∷ []) t ≡ frame_places r t
unfolding frame_places
places-same r e t d u = ap (frame_places_from (r ++ e ∷ []) t) (since-other r e t d) ∙ frame_places_from-same r e t (since r t) (λ n h. since-below r t n h) u

-- ---- ended ids

ends_not_declares : (t : TransactionId) (s : Step) (reply : Reply) → step_discharges t s reply ≡ true → reply_declares t reply ≡ false
ends_not_declares t (steps.Control k payload) (replies.Accepted echoes) h = refl
ends_not_declares t (steps.Control k payload) (replies.Rejected error text) h = refl
ends_not_declares t _ _ h = cc

-- an entry that discharges the id ends it
pub undischarged-ended : (r : List Entry) (e : Entry) (t : TransactionId) → discharges t e ≡ true → undischarged (r ++ e ∷ []) t ≡ false
undischarged-ended r e t h =
    undischarged-other r e t (ends_not_declares t e.step e.reply h) ∙ ap (λ b. undischarged r t && not b) h ∙ and_right (undischarged r t) false refl

either_false : (a b : Bool) → (a || b) ≡ false → (a ≡ false) × (b ≡ false)
either_false true b h = cc h
either_false false b h = (refl, h)

-- and entries that don't declare it anew leave it ended
pub undischarged-later : (r later : List Entry) (t : TransactionId) → undischarged r t ≡ false → list_any (declares t) later ≡ false → undischarged (r ++ later) t ≡ false
undischarged-later r [] t u h = ap (λ l. undischarged l t) (append-nil r) ∙ u
undischarged-later r (x ∷ later) t u h =
    let parts = either_false (declares t x) (list_any (declares t) later) h in
    let next : undischarged (r ++ x ∷ []) t ≡ false = undischarged-other r x t parts.0 ∙ ap (λ b. b && not (discharges t x)) u in
    ap (λ l. undischarged l t) (sym (append_assoc r (x ∷ []) later)) ∙ undischarged-later (r ++ x ∷ []) later t next parts.1
