-- The frames that are kept for an id, after the log was changed.
use Rattle.amqp_resource_log.proofs.Words.{Bool, Cell, Frame, IfSome, List, Log, None, Option, Some, TransactionId, TxnWorkFrame, [], add-zero, ap, arith, closed_up, cond, cons_option, count_by, false, filter, frame_of_work, frame_under, frames_in, is_dead_cell, is_live_cell, is_some, length, length-filter, length-filter_both, length-set, live_count, places, places_from, refl, same_id, same_text, slice_get, slice_set, subst, suc, sym, true, work_at, work_in, zero, zero-add, ℕ, ◌+◌, ◌<◌, ◌^◌, ◌∙◌, ◌∷◌, ◌≡◌}
use Rattle.amqp_resource_log.specs.declared.cell.Cell.TheVariants as cells
use Rattle.amqp_resource_log.proofs.Placed.{dead-taken, work-below}
use Rattle.amqp_resource_log.proofs.Closing.{live_alone}

-- ---- how many

one_of : (b : Bool) (n : ℕ) (f : Frame) (ns : List ℕ) (fs : List Frame) → length ns ≡ length fs → length (cond b (n ∷ ns) ns) ≡ length (cons_option (cond b (Some f) None) fs)
one_of true n f ns fs e = ap suc e
one_of false n f ns fs e = e

pub as_many : (n : ℕ) (t : TransactionId) (cs : List Cell) → length (places_from n t cs) ≡ length (frames_in cs t)
as_many n t [] = refl
as_many n t (cells.Live u w ∷ cs) = one_of (same_id t u) n (frame_of_work w) (places_from (n + 1) t cs) (frames_in cs t) (as_many (n + 1) t cs)
as_many n t (cells.Dead ∷ cs) = as_many (n + 1) t cs

empty : {X : Type 0} (xs : List X) → length xs ≡ 0 → xs ≡ []
empty [] e = refl
empty (x ∷ xs) e = cc

without_first : (ns : List ℕ) → slice_get ns 0 ≡ None → ns ≡ []
without_first [] e = refl
without_first (n ∷ ns) e = cc

-- nothing is kept for an id without places, and one for which nothing is kept has none
pub no_frames : (n : ℕ) (t : TransactionId) (cs : List Cell) → places_from n t cs ≡ [] → frames_in cs t ≡ []
no_frames n t cs e = empty (frames_in cs t) (sym (as_many n t cs) ∙ ap length e)

pub no_places : (n : ℕ) (t : TransactionId) (cs : List Cell) → frames_in cs t ≡ [] → places_from n t cs ≡ []
no_places n t cs e = empty (places_from n t cs) (as_many n t cs ∙ ap length e)

pub none_kept : (n : ℕ) (t : TransactionId) (cs : List Cell) → slice_get (places_from n t cs) 0 ≡ None → frames_in cs t ≡ []
none_kept n t cs e = no_frames n t cs (without_first (places_from n t cs) e)

-- ---- the first work of an id taken

-- the cell at the first place of an id, and what is kept for the id without it
pub record FirstCell (t : TransactionId) (n p : ℕ) (cs : List Cell) : Type 0 where
  pub place : ℕ
  pub work : TxnWorkFrame
  pub is : p ≡ n + place
  pub at : slice_get cs place ≡ Some (cells.Live t work)
  pub frames : frames_in cs t ≡ frame_of_work work ∷ frames_in (slice_set cs place cells.Dead) t

-- a frame that isn't the id's
pub unless_here : (b : Bool) (f : Frame) (fs : List Frame) → b ≡ false → cons_option (cond b (Some f) None) fs ≡ fs
unless_here true f fs e = cc
unless_here false f fs e = refl

-- a cell before it, in which nothing of the id stands
later : (t : TransactionId) (n p : ℕ) (c : Cell) (cs : List Cell) (next : FirstCell t (n + 1) p cs) → ((ds : List Cell) → frames_in (c ∷ ds) t ≡ frames_in ds t) → FirstCell t n p (c ∷ cs)
later t n p c cs next none =
    let further : n + 1 + next.place ≡ n + suc next.place = omega arith in
    record {
      place = suc next.place;
      work = next.work;
      is = next.is ∙ further;
      at = next.at;
      frames =
          none cs ∙ next.frames
          ∙ ap (λ fs. frame_of_work next.work ∷ fs) (sym (none (slice_set cs next.place cells.Dead)));
    }

differ : (p : ℕ) → None ≡ Some p → ⊥
differ p e = cc

pub first_cell : (t : TransactionId) (n p : ℕ) (cs : List Cell) → slice_get (places_from n t cs) 0 ≡ Some p → FirstCell t n p cs
first_cell t n p [] e = absurd (differ p e)
first_cell t n p (cells.Dead ∷ cs) e = later t n p cells.Dead cs (first_cell t (n + 1) p cs e) (λ ds. refl)
first_cell t n p (cells.Live u w ∷ cs) e = by_case (same_id t u) refl e (first_cell t (n + 1) p cs)
  where
    by_case : (b : Bool) → same_id t u ≡ b → slice_get (cond b (n ∷ places_from (n + 1) t cs) (places_from (n + 1) t cs)) 0 ≡ Some p → (slice_get (places_from (n + 1) t cs) 0 ≡ Some p → FirstCell t (n + 1) p cs) → FirstCell t n p (cells.Live u w ∷ cs)
    by_case true h f more =
        let same : n ≡ p = cc in
        record {
          place = 0;
          work = w;
          is = sym same ∙ sym (add-zero n);
          at = ap (λ v. Some (cells.Live v w)) (sym (same_text t u (sym h)));
          frames = ap (λ b. cons_option (cond b (Some (frame_of_work w)) None) (frames_in cs t)) h;
        }
    by_case false h f more = later t n p (cells.Live u w) cs (more f) (λ ds. unless_here (same_id t u) (frame_of_work w) (frames_in ds t) h)

-- ---- the other ids

pub others_stay : (t u : TransactionId) (w : TxnWorkFrame) (i : ℕ) (cs : List Cell) → slice_get cs i ≡ Some (cells.Live u w) → same_id t u ≡ false → frames_in (slice_set cs i cells.Dead) t ≡ frames_in cs t
others_stay t u w i [] e s = cc
others_stay t u w zero (c ∷ cs) e s =
    let is : c ≡ cells.Live u w = cc in
    sym (ap (λ x. cons_option (frame_under t x) (frames_in cs t)) is ∙ unless_here (same_id t u) (frame_of_work w) (frames_in cs t) s)
others_stay t u w (suc i) (c ∷ cs) e s = ap (λ fs. cons_option (frame_under t c) fs) (others_stay t u w i cs e s)

-- ---- the dead cells taken out

pub live_stay : (t : TransactionId) (cs : List Cell) → frames_in (filter is_live_cell cs) t ≡ frames_in cs t
live_stay t [] = refl
live_stay t (cells.Live u w ∷ cs) = ap (λ fs. cons_option (frame_under t (cells.Live u w)) fs) (live_stay t cs)
live_stay t (cells.Dead ∷ cs) = live_stay t cs

-- ---- live and dead

pub live_and_dead : (cs : List Cell) → count_by is_live_cell cs + count_by is_dead_cell cs ≡ length cs
live_and_dead cs =
    ap (λ n. n + count_by is_dead_cell cs) (sym (length-filter is_live_cell cs))
    ∙ ap (λ n. length (filter is_live_cell cs) + n) (sym (length-filter is_dead_cell cs))
    ∙ length-filter_both is_live_cell is_dead_cell (λ x. refl) cs

-- ---- the log once the first work of an id was taken

pub record TookFirst (t : TransactionId) (old : List Cell) (p : ℕ) : Type 0 where
  pub work : TxnWorkFrame
  pub at : slice_get old p ≡ Some (cells.Live t work)
  pub frames : frames_in old t ≡ frame_of_work work ∷ frames_in (slice_set old p cells.Dead) t

pub took_first : (t : TransactionId) (old : List Cell) (p : ℕ) → slice_get (places_from 0 t old) 0 ≡ Some p → TookFirst t old p
took_first t old p e =
    let first = first_cell t 0 p old e in
    let same : first.place ≡ p = sym (first.is ∙ zero-add first.place) in
    record {
      work = first.work;
      at = subst (λ i. slice_get old i ≡ Some (cells.Live t first.work)) same first.at;
      frames = subst (λ i. frames_in old t ≡ frame_of_work first.work ∷ frames_in (slice_set old i cells.Dead) t) same first.frames;
    }

pub first_is_live : (t : TransactionId) (log : Log) (o : Option ℕ) → o ≡ slice_get (places log t) 0 → IfSome o (λ p. is_some (work_at log.cells p) ≡ true)
first_is_live t log None e = tt
first_is_live t log (Some p) e = ap (λ o. is_some (work_in o)) (took_first t log.cells p (sym e)).at

-- one more dead cell can be counted
pub dead-fits : (i : ℕ) (u : TransactionId) (w : TxnWorkFrame) (cs : List Cell) → slice_get cs i ≡ Some (cells.Live u w) → length cs < 2 ^ 64 → count_by is_dead_cell cs + 1 < 2 ^ 64
dead-fits i u w cs at small =
    let dead = dead-taken i u w cs (work-below cs i (ap (λ o. is_some (work_in o)) at)) at in
    let after = live_and_dead (slice_set cs i cells.Dead) in
    let long = length-set cs i cells.Dead in
    omega arith

-- ---- the log closed up

pub live-closed : (old : Log) → live_count (closed_up old) ≡ live_count old
live-closed old =
    let none = live_alone old.cells in
    let all = live_and_dead (filter is_live_cell old.cells) in
    let long = length-filter is_live_cell old.cells in
    omega arith
