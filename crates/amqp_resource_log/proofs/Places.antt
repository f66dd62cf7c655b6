-- Places taken out of a list of places.
use Rattle.amqp_resource_log.proofs.Words.{Bool, List, None, Option, Some, [], ap, append-nil, arith, cond, drop, drop_all, false, length, ltb-false, ltb-true, nat_lt, not, one-add, option_to_list, position, position_or_len, refl, remove, slice_get, subst, suc, sym, take, take_all, true, without_place, ℕ, ◌++◌, ◌+◌, ◌<◌, ◌==◌, ◌∙◌, ◌∷◌, ◌≡◌}

-- the first of some places that is this one, taken out
removed : (n : ℕ) (ms : List ℕ) → remove ms (position_or_len (λ m. m == n) ms) ≡ without_place n ms
removed n [] = refl
removed n (m ∷ ms) = by_case (m == n) (removed n ms)
  where
    by_case : (b : Bool) → remove ms (position_or_len (λ k. k == n) ms) ≡ without_place n ms → remove (m ∷ ms) (cond (not b) (1 + position_or_len (λ k. k == n) ms) 0) ≡ cond b ms (m ∷ without_place n ms)
    by_case true e = refl
    by_case false e = ap (λ k. remove (m ∷ ms) k) (one-add (position_or_len (λ k. k == n) ms)) ∙ ap (λ ks. m ∷ ks) e

-- what a search for a place says of its answer
found_at : (b : Bool) (j i : ℕ) → cond b (Some j) None ≡ Some i → (b ≡ true) × (j ≡ i)
found_at true j i e = (refl, cc)
found_at false j i e = cc

not_found : (b : Bool) (j : ℕ) → cond b (Some j) None ≡ None → b ≡ false
not_found true j e = cc
not_found false j e = refl

pub found_below : (n : ℕ) (ms : List ℕ) (i : ℕ) → position (λ m. m == n) ms ≡ Some i → i < length ms
found_below n ms i e =
    let at = found_at (nat_lt (position_or_len (λ m. m == n) ms) (length ms)) (position_or_len (λ m. m == n) ms) i e in
    let below = ltb-true (position_or_len (λ m. m == n) ms) (length ms) at.0 in
    subst (λ k. k < length ms) at.1 below

pub removed_found : (n : ℕ) (ms : List ℕ) (i : ℕ) → position (λ m. m == n) ms ≡ Some i → remove ms i ≡ without_place n ms
removed_found n ms i e =
    let at = found_at (nat_lt (position_or_len (λ m. m == n) ms) (length ms)) (position_or_len (λ m. m == n) ms) i e in
    ap (λ k. remove ms k) (sym at.1) ∙ removed n ms

pub removed_none : (n : ℕ) (ms : List ℕ) → position (λ m. m == n) ms ≡ None → ms ≡ without_place n ms
removed_none n ms e =
    let past = ltb-false (position_or_len (λ m. m == n) ms) (length ms) (not_found (nat_lt (position_or_len (λ m. m == n) ms) (length ms)) (position_or_len (λ m. m == n) ms) e) in
    sym (append-nil ms)
    ∙ ap (λ ks. ks ++ []) (sym (take_all (position_or_len (λ m. m == n) ms) ms past))
    ∙ ap (λ ks. take (position_or_len (λ m. m == n) ms) ms ++ ks) (sym (drop_all (suc (position_or_len (λ m. m == n) ms)) ms (omega arith)))
    ∙ removed n ms

-- what a list gives when its first element is taken out
pub popped : (xs ys : List ℕ) (o : Option ℕ) → xs ≡ option_to_list o ++ ys → ys ≡ drop 1 xs → o ≡ slice_get xs 0
popped [] ys None e rest = refl
popped [] ys (Some x) e rest = cc
popped (y ∷ xs) ys None e rest = absurd (omega (arith, ap length e, ap length rest))
popped (y ∷ xs) ys (Some x) e rest = let same : y ≡ x = cc in ap Some (sym same)
