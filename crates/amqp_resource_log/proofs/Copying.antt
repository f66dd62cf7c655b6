-- The work of an id, by the places of its cells.
use Rattle.amqp_resource_log.proofs.Words.{Bool, Cell, Frame, List, None, Some, TransactionId, TxnWorkFrame, [], add-zero, ap, arith, cond, cons_option, false, frame_of_work, frames_in, length, map, places_from, refl, same_id, slice_get, stripped, subst, suc, sym, take, take_all, true, work_at, zero, zero-add, get_or, slice_get-get_or, ℕ, ◌++◌, ◌+◌, ◌<◌, ◌≤◌, ◌∙◌, ◌∷◌, ◌≡◌}
use Rattle.amqp_resource_log.specs.declared.cell.Cell.TheVariants as cells
use Rattle.amqp_resource_log.proofs.Frames.{as_many, unless_here}

-- the cell at one of the places of an id, and its frame among those of the id
record Placed (t : TransactionId) (n p i : ℕ) (cs : List Cell) : Type 0 where
  pub place : ℕ
  pub work : TxnWorkFrame
  pub is : p ≡ n + place
  pub at : work_at cs place ≡ Some work
  pub frame : slice_get (frames_in cs t) i ≡ Some (frame_of_work work)

-- the same with one cell more before it
next : (t : TransactionId) (n p i j : ℕ) (c : Cell) (cs : List Cell) → Placed t (n + 1) p i cs → slice_get (frames_in (c ∷ cs) t) j ≡ slice_get (frames_in cs t) i → Placed t n p j (c ∷ cs)
next t n p i j c cs later same =
    let further : n + 1 + later.place ≡ n + suc later.place = omega arith in
    record {
      place = suc later.place;
      work = later.work;
      is = later.is ∙ further;
      at = later.at;
      frame = same ∙ later.frame;
    }

nowhere : (p i : ℕ) → slice_get {X = ℕ} [] i ≡ Some p → ⊥
nowhere p i e = cc

placed : (t : TransactionId) (n p i : ℕ) (cs : List Cell) → slice_get (places_from n t cs) i ≡ Some p → Placed t n p i cs
placed t n p i [] e = absurd (nowhere p i e)
placed t n p i (cells.Dead ∷ cs) e = next t n p i i cells.Dead cs (placed t (n + 1) p i cs e) refl
placed t n p i (cells.Live u w ∷ cs) e = by_case (same_id t u) refl i e (λ j. placed t (n + 1) p j cs)
  where
    by_case : (b : Bool) → same_id t u ≡ b → (i : ℕ) → slice_get (cond b (n ∷ places_from (n + 1) t cs) (places_from (n + 1) t cs)) i ≡ Some p → ((j : ℕ) → slice_get (places_from (n + 1) t cs) j ≡ Some p → Placed t (n + 1) p j cs) → Placed t n p i (cells.Live u w ∷ cs)
    by_case true h zero f more =
        let same : n ≡ p = cc in
        record {
          place = 0;
          work = w;
          is = sym same ∙ sym (add-zero n);
          at = refl;
          frame = ap (λ b. slice_get (cons_option (cond b (Some (frame_of_work w)) None) (frames_in cs t)) 0) h;
        }
    by_case true h (suc j) f more = next t n p j (suc j) (cells.Live u w) cs (more j f) (ap (λ b. slice_get (cons_option (cond b (Some (frame_of_work w)) None) (frames_in cs t)) (suc j)) h)
    by_case false h i f more = next t n p i i (cells.Live u w) cs (more i f) (ap (λ fs. slice_get fs i) (unless_here (same_id t u) (frame_of_work w) (frames_in cs t) h))

-- the work at one of the places of an id is live, and its frame is the id's next
pub record WorkAt (t : TransactionId) (p i : ℕ) (cs : List Cell) : Type 0 where
  pub work : TxnWorkFrame
  pub at : work_at cs p ≡ Some work
  pub frame : slice_get (frames_in cs t) i ≡ Some (frame_of_work work)

pub work_placed : (t : TransactionId) (p i : ℕ) (cs : List Cell) → slice_get (places_from 0 t cs) i ≡ Some p → WorkAt t p i cs
work_placed t p i cs e =
    let it = placed t 0 p i cs e in
    record {
      work = it.work;
      at = subst (λ k. work_at cs k ≡ Some it.work) (sym (it.is ∙ zero-add it.place)) it.at;
      frame = it.frame;
    }

-- the same of a place that was read
pub placed_at : (t : TransactionId) (cs : List Cell) (ps : List ℕ) (i p : ℕ) → ps ≡ places_from 0 t cs → i < length ps → p ≡ get_or ps i p → WorkAt t p i cs
placed_at t cs ps i p same within read =
    work_placed t p i cs (ap (λ ns. slice_get ns i) (sym same) ∙ slice_get-get_or ps i p within ∙ ap Some (sym read))

-- one copy more
pub copied_more : (fs : List Frame) (i : ℕ) (f : Frame) → slice_get fs i ≡ Some f → map stripped (take i fs) ++ stripped f ∷ [] ≡ map stripped (take (suc i) fs)
copied_more [] i f e = cc
copied_more (x ∷ fs) zero f e = let same : x ≡ f = cc in ap (λ y. stripped y ∷ []) (sym same)
copied_more (x ∷ fs) (suc i) f e = ap (λ gs. stripped x ∷ gs) (copied_more fs i f e)

-- all are copied
pub all_copied : (t : TransactionId) (cs : List Cell) (ps : List ℕ) (i : ℕ) → ps ≡ places_from 0 t cs → length ps ≤ i → map stripped (take i (frames_in cs t)) ≡ map stripped (frames_in cs t)
all_copied t cs ps i same past =
    ap (map stripped) (take_all i (frames_in cs t) (subst (λ n. n ≤ i) (ap length same ∙ as_many 0 t cs) past))

-- no more than all are copied
pub copied_few : (t : TransactionId) (cs : List Cell) (ps : List ℕ) (i : ℕ) → ps ≡ places_from 0 t cs → i ≤ length ps → i ≤ length (frames_in cs t)
copied_few t cs ps i same few = subst (λ n. i ≤ n) (ap length same ∙ as_many 0 t cs) few
