-- The first place that passes a test, where one place alone passes it, and where none does.
use Rattle.std.proofs.Common.{refl, ℕ, ◌≡◌, ◌<◌, Bool, true, false, Some, None, List, length, get_or, inl, inr, arith}
use Rattle.std.specs.Prelude.{position}
use Rattle.std.specs.List.{position_or_len}
use Rattle.std.proofs.lemmas.List.Sums.{position_or_len_is}
use Rattle.std.proofs.lemmas.Bool.{cases_Bool, cases_lt, lt-ltb, le-ltb}
use Rattle.std.proofs.lemmas.List.{get_or_past}

-- a place that passes is within the list
pub within : {X : Type 0} (p : X → Bool) (xs : List X) (i : ℕ) (d : X) → p d ≡ false → p (get_or xs i d) ≡ true → i < length xs
within p xs i d miss hit =
    elim (cases_lt i (length xs)) [
      | inl below ↦ below
      | inr past ↦ let end = get_or_past xs i d past in absurd (cc end)
    ]

pub position-only : {X : Type 0} (p : X → Bool) (xs : List X) (i : ℕ) (d : X) → p d ≡ false → p (get_or xs i d) ≡ true → ((k : ℕ) → p (get_or xs k d) ≡ true → k ≡ i) → position p xs ≡ Some i
position-only p xs i d miss hit only =
    let in_list : i < length xs = within p xs i d miss hit in
    let fails : (k : ℕ) → k < i → p (get_or xs k d) ≡ false = λ k below. elim (cases_Bool (p (get_or xs k d))) [
      | inl passes ↦ let e : k ≡ i = only k passes in absurd (omega arith)
      | inr misses ↦ misses
    ] in
    let at : position_or_len p xs ≡ i = position_or_len_is p xs i d (omega arith) fails (λ h. hit) in
    rw (at, lt-ltb i (length xs) in_list) refl

pub position-none : {X : Type 0} (p : X → Bool) (xs : List X) (d : X) → ((k : ℕ) → p (get_or xs k d) ≡ false) → position p xs ≡ None
position-none p xs d fails =
    let at : position_or_len p xs ≡ length xs = position_or_len_is p xs (length xs) d (omega arith) (λ k below. fails k) (λ h. absurd (omega arith)) in
    rw (at, le-ltb (length xs) (length xs) (omega arith)) refl
