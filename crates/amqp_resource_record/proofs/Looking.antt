-- What looking back sees with one entry more.
use Rattle.std.proofs.Common.{◌≡◌, ℕ, suc, ◌+◌, ◌<◌, Bool, true, false, cond, not, ◌&&◌, ◌||◌, Option, Some, None, List, [], ◌∷◌, ◌++◌, length, drop, refl, sym, ◌∙◌, ap, arith, append-nil, subst, length-drop}
use Rattle.std.specs.Prelude.{slice_get}
use Rattle.std.specs.List.{list_any, AllByRecursion}
use Rattle.std.proofs.lemmas.List.{drop-append-le, drop_all, map-append, length-append, length-map}
use Rattle.std.proofs.lemmas.List.Folds.{list_any-append}
use Rattle.std.proofs.lemmas.List.Concat.{flat_map-append}
use Rattle.amqp_txn_types.specs.declared.id.TransactionId.{TransactionId}
use Rattle.amqp_resource_record.specs.declared.entry.Entry.{Entry}
use Rattle.amqp_resource_record.specs.declared.step.Step.{Step}
use Rattle.amqp_resource_record.specs.Entries.{attaches, closes, declares, discharges, is_under, step_link, steps_of}
use Rattle.amqp_resource_record.specs.Links.{is_open}
use Rattle.amqp_resource_record.specs.Live.{places_from, since, home, home_from, is_open_at, undischarged, undischarged_from, frame_places, frame_places_from, link_of_entry}
use Rattle.amqp_resource_record.specs.Hands.{frames_at, frame_of_step, frames_of}
use Rattle.amqp_resource_record.proofs.Places.{last_place-snoc, last_place-below, places_from-snoc, places_from-below, slice_get-append, slice_get-at}

still : (a c : Bool) → ((a || (false || false)) && not (c || (false || false))) ≡ (a && not c)
still true true = refl
still true false = refl
still false c = refl

shut : (a c : Bool) → (a && not (c || (true || false))) ≡ false
shut true true = refl
shut true false = refl
shut false c = refl

-- ---- links

-- an entry that neither attaches nor closes the link leaves it
pub is_open-other : (r : List Entry) (e : Entry) (k : ℕ) → attaches k e ≡ false → closes k e ≡ false → is_open (r ++ e ∷ []) k ≡ is_open r k
unfolding is_open
is_open-other r e k a c = simp (list_any-append (attaches k) r (e ∷ []), list_any-append (closes k) r (e ∷ []), a, c) (still (list_any (attaches k) r) (list_any (closes k) r))

-- the entry closes it
pub is_open-closed : (r : List Entry) (e : Entry) (k : ℕ) → closes k e ≡ true → is_open (r ++ e ∷ []) k ≡ false
unfolding is_open
is_open-closed r e k c = simp (list_any-append (closes k) r (e ∷ []), c) (shut (list_any (attaches k) (r ++ e ∷ [])) (list_any (closes k) r))

-- an entry that neither attaches nor closes the link, if there is one, leaves it
pub is_open_at-other : (r : List Entry) (e : Entry) (o : Option ℕ) → ((k : ℕ) → o ≡ Some k → attaches k e ≡ false) → ((k : ℕ) → o ≡ Some k → closes k e ≡ false) → is_open_at (r ++ e ∷ []) o ≡ is_open_at r o
is_open_at-other r e None a c = refl
is_open_at-other r e (Some k) a c = is_open-other r e k (a k refl) (c k refl)

-- ---- the last declare

pub since-snoc : (r : List Entry) (e : Entry) (t : TransactionId) → since (r ++ e ∷ []) t ≡ cond (declares t e) (Some (length r)) (since r t)
unfolding since
since-snoc r e t = last_place-snoc (declares t) r e

pub since-below : (r : List Entry) (t : TransactionId) (n : ℕ) → since r t ≡ Some n → n < length r
unfolding since
since-below r t n h = last_place-below (declares t) r n h

-- ---- an entry that declares the id

pub since-declared : (r : List Entry) (e : Entry) (t : TransactionId) → declares t e ≡ true → since (r ++ e ∷ []) t ≡ Some (length r)
since-declared r e t d = since-snoc r e t ∙ ap (λ b. cond b (Some (length r)) (since r t)) d

nothing_later : (r : List Entry) (e : Entry) → drop (suc (length r)) (r ++ e ∷ []) ≡ []
nothing_later r e = drop_all (suc (length r)) (r ++ e ∷ []) (let h : length (r ++ e ∷ []) ≡ length r + 1 = length-append r (e ∷ []) in omega arith)

pub home-declared : (r : List Entry) (e : Entry) (t : TransactionId) → declares t e ≡ true → home (r ++ e ∷ []) t ≡ step_link e.step
unfolding home
home-declared r e t d = ap (home_from (r ++ e ∷ [])) (since-declared r e t d) ∙ ap link_of_entry (slice_get-at r [] e)

pub undischarged-declared : (r : List Entry) (e : Entry) (t : TransactionId) → declares t e ≡ true → undischarged (r ++ e ∷ []) t ≡ true
unfolding undischarged
undischarged-declared r e t d = ap (undischarged_from (r ++ e ∷ []) t) (since-declared r e t d) ∙ ap (λ l. not (list_any (discharges t) l)) (nothing_later r e)

pub places-declared : (r : List Entry) (e : Entry) (t : TransactionId) → declares t e ≡ true → frame_places (r ++ e ∷ []) t ≡ []
unfolding frame_places
places-declared r e t d = ap (frame_places_from (r ++ e ∷ []) t) (since-declared r e t d) ∙ ap (λ l. places_from (suc (length r)) (is_under t) l) (nothing_later r e)

-- ---- another entry

pub since-other : (r : List Entry) (e : Entry) (t : TransactionId) → declares t e ≡ false → since (r ++ e ∷ []) t ≡ since r t
since-other r e t d = since-snoc r e t ∙ ap (λ b. cond b (Some (length r)) (since r t)) d

home_from-snoc : (r : List Entry) (e : Entry) (o : Option ℕ) → ((n : ℕ) → o ≡ Some n → n < length r) → home_from (r ++ e ∷ []) o ≡ home_from r o
home_from-snoc r e None h = refl
home_from-snoc r e (Some n) h = ap link_of_entry (slice_get-append r (e ∷ []) n (h n refl))

pub home-other : (r : List Entry) (e : Entry) (t : TransactionId) → declares t e ≡ false → home (r ++ e ∷ []) t ≡ home r t
unfolding home
home-other r e t d = ap (home_from (r ++ e ∷ [])) (since-other r e t d) ∙ home_from-snoc r e (since r t) (λ n h. since-below r t n h)

not_any_more : (a b : Bool) → not (a || (b || false)) ≡ (not a && not b)
not_any_more true b = refl
not_any_more false true = refl
not_any_more false false = refl

undischarged_from-snoc : (r : List Entry) (e : Entry) (t : TransactionId) (o : Option ℕ) → ((n : ℕ) → o ≡ Some n → n < length r) → undischarged_from (r ++ e ∷ []) t o ≡ (undischarged_from r t o && not (discharges t e))
undischarged_from-snoc r e t None h = refl
undischarged_from-snoc r e t (Some n) h =
    ap (λ l. not (list_any (discharges t) l)) (drop-append-le (suc n) r (e ∷ []) (h n refl))
    ∙ ap not (list_any-append (discharges t) (drop (suc n) r) (e ∷ []))
    ∙ not_any_more (list_any (discharges t) (drop (suc n) r)) (discharges t e)

pub undischarged-other : (r : List Entry) (e : Entry) (t : TransactionId) → declares t e ≡ false → undischarged (r ++ e ∷ []) t ≡ (undischarged r t && not (discharges t e))
unfolding undischarged
undischarged-other r e t d = ap (undischarged_from (r ++ e ∷ []) t) (since-other r e t d) ∙ undischarged_from-snoc r e t (since r t) (λ n h. since-below r t n h)

frame_places_from-snoc : (r : List Entry) (e : Entry) (t : TransactionId) (o : Option ℕ) → ((n : ℕ) → o ≡ Some n → n < length r) → undischarged_from r t o ≡ true → frame_places_from (r ++ e ∷ []) t o ≡ frame_places_from r t o ++ cond (is_under t e) (length r ∷ []) []
frame_places_from-snoc r e t None h u = cc u
frame_places_from-snoc r e t (Some n) h u =
    let below : n < length r = h n refl in
    ap (places_from (suc n) (is_under t)) (drop-append-le (suc n) r (e ∷ []) (h n refl))
    ∙ places_from-snoc (suc n) (is_under t) (drop (suc n) r) e
    ∙ ap (λ k. places_from (suc n) (is_under t) (drop (suc n) r) ++ cond (is_under t e) (k ∷ []) []) (omega (arith, length-drop (suc n) r))

pub places-other : (r : List Entry) (e : Entry) (t : TransactionId) → declares t e ≡ false → undischarged r t ≡ true → frame_places (r ++ e ∷ []) t ≡ frame_places r t ++ cond (is_under t e) (length r ∷ []) []
unfolding frame_places undischarged
places-other r e t d u = ap (frame_places_from (r ++ e ∷ []) t) (since-other r e t d) ∙ frame_places_from-snoc r e t (since r t) (λ n h. since-below r t n h) u

-- ---- the frames at places

frame_places_from-below : (r : List Entry) (t : TransactionId) (o : Option ℕ) → ((n : ℕ) → o ≡ Some n → n < length r) → AllByRecursion (λ i. i < length r) (frame_places_from r t o)
frame_places_from-below r t None h = tt
frame_places_from-below r t (Some n) h =
    let below : n < length r = h n refl in
    places_from-below (length r) (suc n) (is_under t) (drop (suc n) r) (omega (arith, length-drop (suc n) r))

pub places-below : (r : List Entry) (t : TransactionId) → AllByRecursion (λ i. i < length r) (frame_places r t)
unfolding frame_places
places-below r t = frame_places_from-below r t (since r t) (λ n h. since-below r t n h)

-- the frames at places of the front
pub frames_at-front : (ss ts : List Step) (places : List ℕ) → AllByRecursion (λ i. i < length ss) places → frames_at (ss ++ ts) places ≡ frames_at ss places
frames_at-front ss ts [] h = refl
frames_at-front ss ts (i ∷ places) h =
    ap (λ o. frame_of_step o ++ frames_at (ss ++ ts) places) (slice_get-append ss ts i h.0)
    ∙ ap (λ l. frame_of_step (slice_get ss i) ++ l) (frames_at-front ss ts places h.1)

steps-snoc : (r : List Entry) (e : Entry) → steps_of (r ++ e ∷ []) ≡ steps_of r ++ e.step ∷ []
steps-snoc r e = map-append (λ (x : Entry). x.step) r (e ∷ [])

pub places-below_steps : (r : List Entry) (t : TransactionId) → AllByRecursion (λ i. i < length (steps_of r)) (frame_places r t)
places-below_steps r t = let P : ℕ → Type 0 = λ n. AllByRecursion (λ i. i < n) (frame_places r t) in subst P (sym (length-map r (λ (x : Entry). x.step))) (places-below r t)

pub frames_of-declared : (r : List Entry) (e : Entry) (t : TransactionId) → declares t e ≡ true → frames_of (r ++ e ∷ []) t ≡ []
frames_of-declared r e t d = ap (frames_at (steps_of (r ++ e ∷ []))) (places-declared r e t d)

own_place : (r : List Entry) (e : Entry) (b : Bool) → frames_at (steps_of r ++ e.step ∷ []) (cond b (length r ∷ []) []) ≡ cond b (frame_of_step (Some e.step)) []
own_place r e false = refl
own_place r e true = ap (λ o. frame_of_step o ++ []) (ap (slice_get (steps_of r ++ e.step ∷ [])) (sym (length-map r (λ (x : Entry). x.step))) ∙ slice_get-at (steps_of r) [] e.step) ∙ append-nil (frame_of_step (Some e.step))

-- another entry adds its frame, where that is under the id
pub frames_of-other : (r : List Entry) (e : Entry) (t : TransactionId) → declares t e ≡ false → undischarged r t ≡ true → frames_of (r ++ e ∷ []) t ≡ frames_of r t ++ cond (is_under t e) (frame_of_step (Some e.step)) []
frames_of-other r e t d u =
    ap (λ ss. frames_at ss (frame_places (r ++ e ∷ []) t)) (steps-snoc r e)
    ∙ ap (frames_at (steps_of r ++ e.step ∷ [])) (places-other r e t d u)
    ∙ flat_map-append (λ i. frame_of_step (slice_get (steps_of r ++ e.step ∷ []) i)) (frame_places r t) (cond (is_under t e) (length r ∷ []) [])
    ∙ ap (λ l. l ++ frames_at (steps_of r ++ e.step ∷ []) (cond (is_under t e) (length r ∷ []) [])) (frames_at-front (steps_of r) (e.step ∷ []) (frame_places r t) (places-below_steps r t))
    ∙ ap (λ l. frames_of r t ++ l) (own_place r e (is_under t e))
