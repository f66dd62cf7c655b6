-- The live cells moved to the front of the log, one after another.
use Rattle.amqp_resource_log.proofs.Words.{Cell, FiltersInPlace, FiltersInPlace-all, List, TransactionId, TxnWorkFrame, [], add-one, ap, append-nil, arith, cond, count_by, drop, drop-cons, filter, filter-append, get_or, is_dead_cell, is_live_cell, length, length-filter, length-take-le, moved_to, places_from, refl, same_id, suc, sym, take, take_more, ℕ, ◌++◌, ◌+◌, ◌<◌, ◌∙◌, ◌∷◌, ◌≡◌, ◌≤◌}
use Rattle.amqp_resource_log.specs.declared.cell.Cell.TheVariants as cells
use Rattle.amqp_resource_log.proofs.Placed.{places-moved}

-- ---- the cell that is looked at

-- what is yet to be looked at stands as it did
unmoved : {xs ys : List Cell} {k i : ℕ} (x : Cell) → FiltersInPlace is_live_cell xs ys k i → i < length xs → x ≡ get_or ys i x → get_or xs i x ≡ x
unmoved {xs} {ys} {k} {i} x f below is =
    let there : i < length ys = omega (arith, f.long) in
    let mine = drop-cons ys i x there in
    let theirs = drop-cons xs i x below in
    let both : get_or ys i x ∷ drop (suc i) ys ≡ get_or xs i x ∷ drop (suc i) xs = sym mine ∙ f.rest ∙ theirs in
    cc

next_rest : {xs ys : List Cell} {k i : ℕ} (x : Cell) → FiltersInPlace is_live_cell xs ys k i → i < length xs → x ≡ get_or ys i x → drop i xs ≡ x ∷ drop (i + 1) xs
next_rest {xs} {ys} {k} {i} x f below is =
    drop-cons xs i x below ∙ ap (λ y. y ∷ drop (suc i) xs) (unmoved x f below is) ∙ ap (λ n. x ∷ drop n xs) (sym (add-one i))

next_front : {xs ys : List Cell} {k i : ℕ} (x : Cell) → FiltersInPlace is_live_cell xs ys k i → i < length xs → x ≡ get_or ys i x → filter is_live_cell (take (i + 1) xs) ≡ filter is_live_cell (take i xs) ++ filter is_live_cell (x ∷ [])
next_front {xs} {ys} {k} {i} x f below is =
    ap (λ cs. filter is_live_cell cs) (take_more xs i x below ∙ ap (λ y. take i xs ++ y ∷ []) (unmoved x f below is))
    ∙ filter-append is_live_cell (take i xs) (x ∷ [])

-- ---- the places after it

moved_count : {xs ys : List Cell} {k i : ℕ} → FiltersInPlace is_live_cell xs ys k i → length (filter is_live_cell (take i xs)) ≡ k
moved_count {xs} {ys} {k} {i} f = ap length (sym f.front) ∙ length-take-le k ys (omega (arith, f.behind, f.within, f.long))

pub looked_at_live : {xs ys : List Cell} {k i : ℕ} (t u : TransactionId) (w : TxnWorkFrame) (x : Cell) (old : List ℕ) → FiltersInPlace is_live_cell xs ys k i → i < length xs → x ≡ get_or ys i x → x ≡ cells.Live u w → old ≡ places_from i t (drop i xs) ++ places_from 0 t (filter is_live_cell (take i xs)) → cond (same_id t u) (moved_to k old) old ≡ places_from (i + 1) t (drop (i + 1) xs) ++ places_from 0 t (filter is_live_cell (take (i + 1) xs))
looked_at_live {xs} {ys} {k} {i} t u w x old f below is live was =
    let front = filter is_live_cell (take i xs) in
    let rest = next_rest x f below is ∙ ap (λ c. c ∷ drop (i + 1) xs) live in
    let more = next_front x f below is ∙ ap (λ c. front ++ filter is_live_cell (c ∷ [])) live in
    ap (λ o. cond (same_id t u) (moved_to k o) o) (was ∙ ap (λ cs. places_from i t cs ++ places_from 0 t front) rest)
    ∙ places-moved i k t u w (drop (i + 1) xs) front (moved_count f)
    ∙ sym (ap (λ cs. places_from (i + 1) t (drop (i + 1) xs) ++ places_from 0 t cs) more)

pub looked_at_dead : {xs ys : List Cell} {k i : ℕ} (t : TransactionId) (x : Cell) (old : List ℕ) → FiltersInPlace is_live_cell xs ys k i → i < length xs → x ≡ get_or ys i x → x ≡ cells.Dead → old ≡ places_from i t (drop i xs) ++ places_from 0 t (filter is_live_cell (take i xs)) → old ≡ places_from (i + 1) t (drop (i + 1) xs) ++ places_from 0 t (filter is_live_cell (take (i + 1) xs))
looked_at_dead {xs} {ys} {k} {i} t x old f below is dead was =
    let front = filter is_live_cell (take i xs) in
    let rest = next_rest x f below is ∙ ap (λ c. c ∷ drop (i + 1) xs) dead in
    let more = next_front x f below is ∙ ap (λ c. front ++ filter is_live_cell (c ∷ [])) dead ∙ append-nil front in
    was ∙ ap (λ cs. places_from i t cs ++ places_from 0 t front) rest
    ∙ sym (ap (λ cs. places_from (i + 1) t (drop (i + 1) xs) ++ places_from 0 t cs) more)

-- ---- all of them looked at

pub moved_all : {xs ys : List Cell} {k i : ℕ} → FiltersInPlace is_live_cell xs ys k i → length xs ≤ i → k ≡ count_by is_live_cell xs
moved_all {xs} {ys} {k} {i} f past =
    sym (length-take-le k ys (omega (arith, f.behind, f.within, f.long))) ∙ ap length (FiltersInPlace-all f past) ∙ length-filter is_live_cell xs

pub live_alone : (cs : List Cell) → 0 ≡ count_by is_dead_cell (filter is_live_cell cs)
live_alone [] = refl
live_alone (cells.Live u w ∷ cs) = omega (arith, live_alone cs)
live_alone (cells.Dead ∷ cs) = live_alone cs
