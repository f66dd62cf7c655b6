-- The places of the live cells of an id, after the log was changed.
use Rattle.amqp_resource_log.proofs.Words.{Bool, Cell, List, None, Some, TransactionId, TxnWorkFrame, [], add-zero, ap, append-nil, append_assoc, arith, cond, count_by, drop, eq-eqb, false, get_or_from_slice_get, is_dead_cell, is_some, is_under, length, moved_to, ne_eqb, places_from, refl, same_id, same_text, slice_get, slice_get_cases, slice_index_or, slice_set, suc, sum_by-append, sum_by-set, sym, true, without_place, work_at, work_in, zero, zero-add, ℕ, ⊎_elim, ◌++◌, ◌+◌, ◌<◌, ◌==◌, ◌∙◌, ◌∷◌, ◌≡◌, ◌≤◌}
use Rattle.amqp_resource_log.specs.declared.cell.Cell.TheVariants as cells
use Rattle.amqp_resource_log.proofs.Kept.{same_or}

-- ---- cells joined

joined : (b : Bool) (n : ℕ) (xs ys : List ℕ) → cond b (n ∷ (xs ++ ys)) (xs ++ ys) ≡ cond b (n ∷ xs) xs ++ ys
joined true n xs ys = refl
joined false n xs ys = refl

pub places-append : (n : ℕ) (t : TransactionId) (xs ys : List Cell) → places_from n t (xs ++ ys) ≡ places_from n t xs ++ places_from (n + length xs) t ys
places-append n t [] ys = ap (λ k. places_from k t ys) (sym (add-zero n))
places-append n t (x ∷ xs) ys =
    let further : n + 1 + length xs ≡ n + suc (length xs) = omega arith in
    ap (λ ms. cond (is_under t x) (n ∷ ms) ms) (places-append (n + 1) t xs ys ∙ ap (λ k. places_from (n + 1) t xs ++ places_from k t ys) further)
    ∙ joined (is_under t x) n (places_from (n + 1) t xs) (places_from (n + suc (length xs)) t ys)

last_if : (b : Bool) (n : ℕ) (xs : List ℕ) → xs ++ cond b (n ∷ []) [] ≡ cond b (xs ++ n ∷ []) xs
last_if true n xs = refl
last_if false n xs = append-nil xs

-- one more live cell at the end
pub places-arrived : (t u : TransactionId) (w : TxnWorkFrame) (cs : List Cell) → places_from 0 t (cs ++ cells.Live u w ∷ []) ≡ cond (same_id t u) (places_from 0 t cs ++ length cs ∷ []) (places_from 0 t cs)
places-arrived t u w cs =
    places-append 0 t cs (cells.Live u w ∷ [])
    ∙ ap (λ k. places_from 0 t cs ++ places_from k t (cells.Live u w ∷ [])) (zero-add (length cs))
    ∙ last_if (same_id t u) (length cs) (places_from 0 t cs)

pub dead-arrived : (u : TransactionId) (w : TxnWorkFrame) (cs : List Cell) → count_by is_dead_cell (cs ++ cells.Live u w ∷ []) ≡ count_by is_dead_cell cs
dead-arrived u w cs = sum_by-append (λ c. cond (is_dead_cell c) 1 0) cs (cells.Live u w ∷ []) ∙ add-zero (count_by is_dead_cell cs)

-- ---- a cell taken

here : (n : ℕ) (s : Bool) (q : List ℕ) → q ≡ cond s (without_place (n + 0) (cond s (n ∷ q) q)) (cond s (n ∷ q) q)
here n true q = sym (ap (λ b. cond b q (n ∷ without_place (n + 0) q)) (eq-eqb n (n + 0) (sym (add-zero n))))
here n false q = refl

there : (n m : ℕ) (d s : Bool) (q : List ℕ) → (n == m) ≡ false → cond d (n ∷ cond s (without_place m q) q) (cond s (without_place m q) q) ≡ cond s (without_place m (cond d (n ∷ q) q)) (cond d (n ∷ q) q)
there n m true true q apart = sym (ap (λ b. cond b q (n ∷ without_place m q)) apart)
there n m true false q apart = refl
there n m false true q apart = refl
there n m false false q apart = refl

pub places-taken : (n i : ℕ) (t u : TransactionId) (w : TxnWorkFrame) (cs : List Cell) → slice_get cs i ≡ Some (cells.Live u w) → places_from n t (slice_set cs i cells.Dead) ≡ cond (same_id t u) (without_place (n + i) (places_from n t cs)) (places_from n t cs)
places-taken n i t u w [] e = cc
places-taken n zero t u w (c ∷ cs) e =
    let is : c ≡ cells.Live u w = cc in
    here n (same_id t u) (places_from (n + 1) t cs)
    ∙ ap (λ x. cond (same_id t u) (without_place (n + 0) (cond (is_under t x) (n ∷ places_from (n + 1) t cs) (places_from (n + 1) t cs))) (cond (is_under t x) (n ∷ places_from (n + 1) t cs) (places_from (n + 1) t cs))) (sym is)
places-taken n (suc i) t u w (c ∷ cs) e =
    let further : n + 1 + i ≡ n + suc i = omega arith in
    let past : (n == n + suc i) ≡ false = ne_eqb n (n + suc i) (λ f. omega arith) in
    ap (λ ms. cond (is_under t c) (n ∷ ms) ms) (places-taken (n + 1) i t u w cs e ∙ ap (λ k. cond (same_id t u) (without_place k (places_from (n + 1) t cs)) (places_from (n + 1) t cs)) further)
    ∙ there n (n + suc i) (is_under t c) (same_id t u) (places_from (n + 1) t cs) past

-- ---- the first place of an id taken

first_dropped : (p : ℕ) (ns : List ℕ) → slice_get ns 0 ≡ Some p → drop 1 ns ≡ without_place (0 + p) ns
first_dropped p [] e = cc
first_dropped p (n ∷ ns) e =
    let here : n ≡ p = cc in
    let same : n ≡ 0 + p = here ∙ sym (zero-add p) in
    sym (ap (λ b. cond b ns (n ∷ without_place (0 + p) ns)) (eq-eqb n (0 + p) same))

pub places-first : (t id : TransactionId) (p : ℕ) (w : TxnWorkFrame) (cs : List Cell) → slice_get (places_from 0 id cs) 0 ≡ Some p → slice_get cs p ≡ Some (cells.Live id w) → cond (same_id t id) (drop 1 (places_from 0 t cs)) (places_from 0 t cs) ≡ places_from 0 t (slice_set cs p cells.Dead)
places-first t id p w cs first at =
    same_or (same_id t id) (drop 1 (places_from 0 t cs)) (without_place (0 + p) (places_from 0 t cs)) (places_from 0 t cs)
    (λ s. first_dropped p (places_from 0 t cs) (ap (λ v. slice_get (places_from 0 v cs) 0) (same_text t id (sym s)) ∙ first))
    ∙ sym (places-taken 0 p t id w cs at)

counted : (now before : ℕ) (c : Cell) (u : TransactionId) (w : TxnWorkFrame) → c ≡ cells.Live u w → now + cond (is_dead_cell c) 1 0 ≡ before + 1 → now ≡ before + 1
counted now before c u w e h = sym (add-zero now) ∙ ap (λ x. now + cond (is_dead_cell x) 1 0) (sym e) ∙ h

pub dead-taken : (i : ℕ) (u : TransactionId) (w : TxnWorkFrame) (cs : List Cell) → i < length cs → slice_get cs i ≡ Some (cells.Live u w) → count_by is_dead_cell (slice_set cs i cells.Dead) ≡ count_by is_dead_cell cs + 1
dead-taken i u w cs below e =
    let sums = sum_by-set (λ c. cond (is_dead_cell c) 1 0) cs i cells.Dead cells.Dead below in
    let was = get_or_from_slice_get cs i (cells.Live u w) cells.Dead e in
    counted (count_by is_dead_cell (slice_set cs i cells.Dead)) (count_by is_dead_cell cs) (slice_index_or cs i cells.Dead) u w was sums

-- ---- a cell moved to the front of those that are yet to be looked at

moved_live : (s : Bool) (p k : ℕ) (q a : List ℕ) → cond s (moved_to k (cond s (p ∷ q) q ++ a)) (cond s (p ∷ q) q ++ a) ≡ q ++ cond s (a ++ k ∷ []) a
moved_live true p k q a = append_assoc q a (k ∷ [])
moved_live false p k q a = refl

pub places-moved : (p k : ℕ) (t u : TransactionId) (w : TxnWorkFrame) (rest front : List Cell) → length front ≡ k → cond (same_id t u) (moved_to k (places_from p t (cells.Live u w ∷ rest) ++ places_from 0 t front)) (places_from p t (cells.Live u w ∷ rest) ++ places_from 0 t front) ≡ places_from (p + 1) t rest ++ places_from 0 t (front ++ cells.Live u w ∷ [])
places-moved p k t u w rest front long =
    moved_live (same_id t u) p k (places_from (p + 1) t rest) (places_from 0 t front)
    ∙ ap (λ n. places_from (p + 1) t rest ++ cond (same_id t u) (places_from 0 t front ++ n ∷ []) (places_from 0 t front)) (sym long)
    ∙ ap (λ ms. places_from (p + 1) t rest ++ ms) (sym (places-arrived t u w front))

-- a cell with work stands in the log
pub work-below : (cs : List Cell) (i : ℕ) → is_some (work_at cs i) ≡ true → i < length cs
work-below cs i e =
    ⊎_elim
    (λ (here : (x : Cell) × (i < length cs) × (slice_get cs i ≡ Some x) × (slice_index_or cs i x ≡ x)). here.1)
    (λ (past : (length cs ≤ i) × (slice_get cs i ≡ None)). absurd (nothing (ap (λ o. is_some (work_in o)) (sym past.1) ∙ e)))
    (slice_get_cases cs i).1
  where
    nothing : false ≡ true → ⊥
    nothing h = cc
