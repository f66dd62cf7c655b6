-- Words read one after another.
use Rattle.std.proofs.Common.{◌≡◌, ℕ, zero, suc, ◌+◌, Option, Some, None, List, [], ◌∷◌, ◌++◌, refl, sym, ap, drop, append_assoc}
use Rattle.std.specs.Borrow.{Bor}
use Rattle.std.specs.Prelude.{length, slice_get}
use Rattle.txn_program_lines.specs.LineWords.{◌>>=◌}
use Rattle.txn_program_edges.specs.Words.{each}

-- these, and then those of the words that are left
abbrev pub with_more : {A : Type 0} → List A → Option (List A) → Option (List A)
with_more xs None = None
with_more xs (Some more) = Some (xs ++ more)

-- none before them
pub with_more-none : {A : Type 0} (o : Option (List A)) → with_more [] o ≡ o
with_more-none None = refl
with_more-none (Some more) = refl

-- one before those that are read, where there are any
abbrev pub before : {A : Type 0} → A → Option (List A) → Option (List A)
before x o = o >>= λ more. Some (x ∷ more)

-- one more
pub with_more-one : {A : Type 0} (xs : List A) (x : A) (o : Option (List A)) → with_more xs (before x o) ≡ with_more (xs ++ x ∷ []) o
with_more-one xs x None = refl
with_more-one xs x (Some more) = ap Some (sym (append_assoc xs (x ∷ []) more))

-- the words from a place on, by the word there
pub each-at : {A : Type 0} (kind : List ℕ → Option A) (words : List (List ℕ)) (i : ℕ) (word : List ℕ) → slice_get words i ≡ Some word → each kind (drop i words) ≡ (kind word >>= λ x. before x (each kind (drop (suc i) words)))
each-at kind [] i word found = cc
each-at kind (w ∷ words) zero word found = let same : w ≡ word = cc in ap (λ v. kind v >>= λ x. before x (each kind words)) same
each-at kind (w ∷ words) (suc i) word found = each-at kind words i word found

-- how many octets are left, one more where a piece is left
abbrev pub octets_left : Option (Bor (List ℕ)) → ℕ
octets_left None = 0
octets_left (Some octets) = length octets.now + 1
