-- The cells with a dead one in place of each that is live with one id.
use Rattle.amqp_resource_log.proofs.Words.{Bool, Cell, Frame, List, None, Some, TransactionId, TxnWorkFrame, [], ap, arith, cond, cons_option, count_by, emptied, false, frame_of_work, frame_under, frames_in, is_dead_cell, is_live_cell, is_under, length, length-map, nat_list_eq_equiv, places_from, refl, same_id, same_text, slice_get, slice_set, suc, sum_by-cons, sym, true, zero, ℕ, ◌+◌, ◌∙◌, ◌∷◌, ◌≡◌}
use Rattle.amqp_resource_log.specs.declared.cell.Cell.TheVariants as cells
use Rattle.amqp_resource_log.proofs.Frames.{live_and_dead, unless_here}

-- ---- one cell

nothing : {X : Type 0} (b : Bool) (xs : List X) → xs ≡ [] → xs ≡ cond b [] xs
nothing true xs e = e
nothing false xs e = refl

-- two names of one id are both that of a cell, or neither
same_one : (t id u : TransactionId) → same_id id u ≡ true → same_id t u ≡ same_id t id
same_one t id u s = ap (same_id t) (sym (same_text id u (sym s)))

same_other : (t id u : TransactionId) → same_id t id ≡ true → same_id t u ≡ same_id id u
same_other t id u s = ap (λ v. same_id v u) (same_text t id (sym s))

frames_step : (t u : TransactionId) (w : TxnWorkFrame) (d s : Bool) (fs gs : List Frame) → (d ≡ true → same_id t u ≡ s) → (s ≡ true → same_id t u ≡ d) → gs ≡ cond s [] fs → cons_option (frame_under t (cond d cells.Dead (cells.Live u w))) gs ≡ cond s [] (cons_option (frame_under t (cells.Live u w)) fs)
frames_step t u w true true fs gs a b h = h
frames_step t u w true false fs gs a b h = h ∙ sym (unless_here (same_id t u) (frame_of_work w) fs (a refl))
frames_step t u w false true fs gs a b h = unless_here (same_id t u) (frame_of_work w) gs (b refl) ∙ h
frames_step t u w false false fs gs a b h = ap (cons_option (frame_under t (cells.Live u w))) h

-- nothing is kept for the id, and for any other what was
pub frames_emptied : (id t : TransactionId) (cs : List Cell) → frames_in (emptied id cs) t ≡ cond (same_id t id) [] (frames_in cs t)
frames_emptied id t [] = nothing (same_id t id) [] refl
frames_emptied id t (cells.Dead ∷ cs) = frames_emptied id t cs
frames_emptied id t (cells.Live u w ∷ cs) = frames_step t u w (same_id id u) (same_id t id) (frames_in cs t) (frames_in (emptied id cs) t) (same_one t id u) (same_other t id u) (frames_emptied id t cs)

apart : (b : Bool) (n : ℕ) (ns : List ℕ) → b ≡ false → cond b (n ∷ ns) ns ≡ ns
apart true n ns e = cc
apart false n ns e = refl

places_step : (n : ℕ) (t u : TransactionId) (w : TxnWorkFrame) (d s : Bool) (ms ks : List ℕ) → (d ≡ true → same_id t u ≡ s) → (s ≡ true → same_id t u ≡ d) → ks ≡ cond s [] ms → cond (is_under t (cond d cells.Dead (cells.Live u w))) (n ∷ ks) ks ≡ cond s [] (cond (same_id t u) (n ∷ ms) ms)
places_step n t u w true true ms ks a b h = h
places_step n t u w true false ms ks a b h = h ∙ sym (apart (same_id t u) n ms (a refl))
places_step n t u w false true ms ks a b h = apart (same_id t u) n ks (b refl) ∙ h
places_step n t u w false false ms ks a b h = ap (λ qs. cond (same_id t u) (n ∷ qs) qs) h

pub places_emptied : (n : ℕ) (id t : TransactionId) (cs : List Cell) → places_from n t (emptied id cs) ≡ cond (same_id t id) [] (places_from n t cs)
places_emptied n id t [] = nothing (same_id t id) [] refl
places_emptied n id t (cells.Dead ∷ cs) = places_emptied (n + 1) id t cs
places_emptied n id t (cells.Live u w ∷ cs) = places_step n t u w (same_id id u) (same_id t id) (places_from (n + 1) t cs) (places_from (n + 1) t (emptied id cs)) (same_one t id u) (same_other t id u) (places_emptied (n + 1) id t cs)

-- ---- how many cells

pub dead_emptied : (id : TransactionId) (cs : List Cell) → count_by is_dead_cell (emptied id cs) ≡ count_by is_dead_cell cs + length (frames_in cs id)
dead_emptied id [] = refl
dead_emptied id (cells.Dead ∷ cs) =
    omega (arith, dead_emptied id cs, sum_by-cons (λ c. cond (is_dead_cell c) 1 0) cells.Dead (emptied id cs), sum_by-cons (λ c. cond (is_dead_cell c) 1 0) cells.Dead cs)
dead_emptied id (cells.Live u w ∷ cs) = by_case (same_id id u) (dead_emptied id cs)
  where
    by_case : (b : Bool) → count_by is_dead_cell (emptied id cs) ≡ count_by is_dead_cell cs + length (frames_in cs id) → count_by is_dead_cell (cond b cells.Dead (cells.Live u w) ∷ emptied id cs) ≡ count_by is_dead_cell (cells.Live u w ∷ cs) + length (cons_option (cond b (Some (frame_of_work w)) None) (frames_in cs id))
    by_case true more =
        omega (arith, more, sum_by-cons (λ c. cond (is_dead_cell c) 1 0) cells.Dead (emptied id cs), sum_by-cons (λ c. cond (is_dead_cell c) 1 0) (cells.Live u w) cs)
    by_case false more =
        omega (arith, more, sum_by-cons (λ c. cond (is_dead_cell c) 1 0) (cells.Live u w) (emptied id cs), sum_by-cons (λ c. cond (is_dead_cell c) 1 0) (cells.Live u w) cs)

pub live_emptied : (id : TransactionId) (cs : List Cell) → count_by is_live_cell (emptied id cs) + length (frames_in cs id) ≡ count_by is_live_cell cs
live_emptied id cs =
    omega (arith, dead_emptied id cs, live_and_dead cs, live_and_dead (emptied id cs), length-map cs (λ c. cond (is_under id c) cells.Dead c))

-- ---- one cell after another

-- an id without places
pub emptied_none : (n : ℕ) (id : TransactionId) (cs : List Cell) → places_from n id cs ≡ [] → emptied id cs ≡ cs
emptied_none n id [] e = refl
emptied_none n id (cells.Dead ∷ cs) e = ap (λ xs. cells.Dead ∷ xs) (emptied_none (n + 1) id cs e)
emptied_none n id (cells.Live u w ∷ cs) e = by_case (same_id id u) e (emptied_none (n + 1) id cs)
  where
    by_case : (b : Bool) → cond b (n ∷ places_from (n + 1) id cs) (places_from (n + 1) id cs) ≡ [] → (places_from (n + 1) id cs ≡ [] → emptied id cs ≡ cs) → cond b cells.Dead (cells.Live u w) ∷ emptied id cs ≡ cells.Live u w ∷ cs
    by_case true f more = cc
    by_case false f more = ap (λ xs. cells.Live u w ∷ xs) (more f)

-- a cell of the id was taken
pub emptied_taken : (id : TransactionId) (w : TxnWorkFrame) (i : ℕ) (cs : List Cell) → slice_get cs i ≡ Some (cells.Live id w) → emptied id (slice_set cs i cells.Dead) ≡ emptied id cs
emptied_taken id w i [] e = cc
emptied_taken id w zero (c ∷ cs) e =
    let is : c ≡ cells.Live id w = cc in
    sym (ap (λ x. cond (is_under id x) cells.Dead x ∷ emptied id cs) is ∙ ap (λ b. cond b cells.Dead (cells.Live id w) ∷ emptied id cs) (nat_list_eq_equiv.refl id))
emptied_taken id w (suc i) (c ∷ cs) e = ap (λ xs. cond (is_under id c) cells.Dead c ∷ xs) (emptied_taken id w i cs e)
