-- Lists by place.
use Rattle.std.proofs.Common.{◌≡◌, ℕ, zero, suc, ◌+◌, ◌<◌, Bool, true, false, cond, Some, List, [], ◌∷◌, ◌++◌, length, take, drop, refl, sym, ◌∙◌, ap, arith, ◌⊎◌, inl, inr, add-one}
use Rattle.std.specs.Prelude.{◌==◌, slice_get, slice_set}
use Rattle.std.proofs.lemmas.Bool.{eqb-true, eq-eqb}

pub get-set_same : {A : Type 0} (xs : List A) (n : ℕ) (v : A) → n < length xs → slice_get (slice_set xs n v) n ≡ Some v
get-set_same [] n v l = absurd (omega arith)
get-set_same (x ∷ xs) zero v l = refl
get-set_same (x ∷ xs) (suc n) v l = get-set_same xs n v (omega arith)

pub get-set_other : {A : Type 0} (xs : List A) (n m : ℕ) (v : A) → (m ≡ n → ⊥) → slice_get (slice_set xs n v) m ≡ slice_get xs m
get-set_other [] n m v e = refl
get-set_other (x ∷ xs) zero zero v e = absurd (e refl)
get-set_other (x ∷ xs) zero (suc m) v e = refl
get-set_other (x ∷ xs) (suc n) zero v e = refl
get-set_other (x ∷ xs) (suc n) (suc m) v e = get-set_other xs n m v (λ h. e (ap suc h))

pub get-push_same : {A : Type 0} (xs : List A) (v : A) → slice_get (xs ++ v ∷ []) (length xs) ≡ Some v
get-push_same [] v = refl
get-push_same (x ∷ xs) v = get-push_same xs v

pub get-push_other : {A : Type 0} (xs : List A) (m : ℕ) (v : A) → (m ≡ length xs → ⊥) → slice_get (xs ++ v ∷ []) m ≡ slice_get xs m
get-push_other [] zero v e = absurd (e refl)
get-push_other [] (suc m) v e = refl
get-push_other (x ∷ xs) zero v e = refl
get-push_other (x ∷ xs) (suc m) v e = get-push_other xs m v (λ h. e (ap suc h))

-- a number is this one or another
pub test_eq : (m n : ℕ) → ((m == n) ≡ true) × (m ≡ n) ⊎ ((m == n) ≡ false) × (m ≡ n → ⊥)
test_eq m n = by_test (m == n) refl
  where
    by_test : (b : Bool) → (m == n) ≡ b → ((m == n) ≡ true) × (m ≡ n) ⊎ ((m == n) ≡ false) × (m ≡ n → ⊥)
    by_test true e = inl (e, eqb-true m n e)
    by_test false e = inr (e, λ h. cc (e, eq-eqb m n h))

-- what stands at a place after a write
pub get-set : {A : Type 0} (xs : List A) (n m : ℕ) (v : A) → n < length xs → slice_get (slice_set xs n v) m ≡ cond (m == n) (Some v) (slice_get xs m)
get-set xs n m v l =
    elim (test_eq m n) [
      | inl h ↦ ap (slice_get (slice_set xs n v)) h.1 ∙ get-set_same xs n v l ∙ sym (ap (λ b. cond b (Some v) (slice_get xs m)) h.0)
      | inr h ↦ get-set_other xs n m v h.1 ∙ sym (ap (λ b. cond b (Some v) (slice_get xs m)) h.0)
    ]

-- what stands at a place with one item more
pub get-push : {A : Type 0} (xs : List A) (m : ℕ) (v : A) → slice_get (xs ++ v ∷ []) m ≡ cond (m == length xs) (Some v) (slice_get xs m)
get-push xs m v =
    elim (test_eq m (length xs)) [
      | inl h ↦ ap (slice_get (xs ++ v ∷ [])) h.1 ∙ get-push_same xs v ∙ sym (ap (λ b. cond b (Some v) (slice_get xs m)) h.0)
      | inr h ↦ get-push_other xs m v h.1 ∙ sym (ap (λ b. cond b (Some v) (slice_get xs m)) h.0)
    ]

drop-suc : {A : Type 0} (xs : List A) (n : ℕ) (v : A) → slice_get xs n ≡ Some v → drop n xs ≡ v ∷ drop (suc n) xs
drop-suc [] n v e = cc e
drop-suc (x ∷ xs) zero v e = let h : x ≡ v = cc e in ap (λ y. y ∷ xs) h
drop-suc (x ∷ xs) (suc n) v e = drop-suc xs n v e

-- what stands there is the first of the rest
pub drop-get : {A : Type 0} (xs : List A) (n : ℕ) (v : A) → slice_get xs n ≡ Some v → drop n xs ≡ v ∷ drop (n + 1) xs
drop-get xs n v e = drop-suc xs n v e ∙ ap (λ k. v ∷ drop k xs) (sym (add-one n))

take-suc : {A : Type 0} (xs : List A) (n : ℕ) (v : A) → slice_get xs n ≡ Some v → take (suc n) xs ≡ take n xs ++ v ∷ []
take-suc [] n v e = cc e
take-suc (x ∷ xs) zero v e = let h : x ≡ v = cc e in ap (λ y. y ∷ []) h
take-suc (x ∷ xs) (suc n) v e = ap (λ l. x ∷ l) (take-suc xs n v e)

-- one more of them
pub take-get : {A : Type 0} (xs : List A) (n : ℕ) (v : A) → slice_get xs n ≡ Some v → take (n + 1) xs ≡ take n xs ++ v ∷ []
take-get xs n v e = ap (λ k. take k xs) (add-one n) ∙ take-suc xs n v e
