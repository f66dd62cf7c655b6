-- Things that are numbered by their places.
use Rattle.std.proofs.Common.{◌≡◌, ℕ, zero, suc, ◌+◌, ◌<◌, List, [], ◌∷◌, ◌++◌, length, slice_index_or, sym, subst, arith}
use Rattle.txn_program_threads.specs.Each.{EachFrom}

-- the thing at a place is of its number
pub each-at : {X : Type 0} (Is : ℕ → X → Type 0) (n : ℕ) (xs : List X) (i : ℕ) (x : X) → EachFrom Is n xs → i < length xs → x ≡ slice_index_or xs i x → Is (n + i) x
each-at Is n [] i x each low at = absurd (omega (arith, low))
each-at Is n (y ∷ xs) zero x each low at =
    let P : ℕ → Type 0 = λ m. Is m x in
    subst P (omega arith) (subst (Is n) (sym at) each.0)
each-at Is n (y ∷ xs) (suc i) x each low at =
    let P : ℕ → Type 0 = λ m. Is m x in
    subst P (omega arith) (each-at Is (n + 1) xs i x each.1 (omega (arith, low)) at)

-- things that are of their numbers at each place
pub each-from : {X : Type 0} (Is : ℕ → X → Type 0) (n : ℕ) (xs : List X) → ((i : ℕ) (d : X) → i < length xs → Is (n + i) (slice_index_or xs i d)) → EachFrom Is n xs
each-from Is n [] at = tt
each-from {X} Is n (x ∷ xs) at =
    let P : ℕ → Type 0 = λ m. Is m x in
    let first : Is n x = subst P (omega arith) (at 0 x (omega arith)) in
    let next : (i : ℕ) (d : X) → i < length xs → Is (n + 1 + i) (slice_index_or xs i d) = λ i d low. let Q : ℕ → Type 0 = λ m. Is m (slice_index_or xs i d) in subst Q (omega arith) (at (suc i) d (omega (arith, low))) in
    (first, each-from Is (n + 1) xs next)

-- one thing more
pub each-push : {X : Type 0} (Is : ℕ → X → Type 0) (n : ℕ) (xs : List X) (x : X) → EachFrom Is n xs → Is (n + length xs) x → EachFrom Is n (xs ++ x ∷ [])
each-push Is n [] x each is = let P : ℕ → Type 0 = λ m. Is m x in (subst P (omega arith) is, tt)
each-push Is n (y ∷ xs) x each is = let P : ℕ → Type 0 = λ m. Is m x in (each.0, each-push Is (n + 1) xs x each.1 (subst P (omega arith) is))

-- the last thing
pub each-pop : {X : Type 0} (Is : ℕ → X → Type 0) (n : ℕ) (xs : List X) (x : X) → EachFrom Is n (xs ++ x ∷ []) → EachFrom Is n xs × Is (n + length xs) x
each-pop Is n [] x each = let P : ℕ → Type 0 = λ m. Is m x in (tt, subst P (omega arith) each.0)
each-pop Is n (y ∷ xs) x each = let P : ℕ → Type 0 = λ m. Is m x in let rest = each-pop Is (n + 1) xs x each.1 in ((each.0, rest.0), subst P (omega arith) rest.1)
