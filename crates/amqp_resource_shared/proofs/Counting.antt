-- Numbers that differ, as many as there are, are all the numbers below their number.
use Rattle.std.proofs.Common.{◌≡◌, ℕ, zero, suc, ◌+◌, ◌<◌, ◌≤◌, eqb, Bool, true, false, cond, ◌||◌, Option, Some, None, List, [], ◌∷◌, length, map, sum_by, count_by, slice_get, refl, sym, ◌∙◌, ap, subst, arith}
use Rattle.std.specs.List.{AllByRecursion, IsDistinct, list_any}
use Rattle.std.proofs.lemmas.List.Sums.{sum_by-cons}
use Rattle.std.proofs.lemmas.List.{length-map}
use Rattle.std.proofs.lemmas.Bool.Decides.{nat_tests}

-- each receipt has the number of an entry, and is of a kind exactly where that entry is
abbrev pub EachIsOf : {E R : Type 0} → (R → ℕ) → (R → Bool) → (E → Bool) → List E → List R → Type 0
EachIsOf number told kind es [] = Unit {0}
EachIsOf {E} number told kind es (r ∷ rs) = ((e : E) × (slice_get es (number r) ≡ Some e) × (told r ≡ kind e)) × EachIsOf number told kind es rs

-- the sum of f over the numbers below m
abbrev pub sum_below : (ℕ → ℕ) → ℕ → ℕ
sum_below f zero = 0
sum_below f (suc m) = sum_below f m + f m

-- the numbers that aren't k
abbrev without : ℕ → List ℕ → List ℕ
without k [] = []
without k (n ∷ ns) = cond (eqb n k) (without k ns) (n ∷ without k ns)

-- what holds of all holds of those that aren't k
all-without : (P : ℕ → Type 0) (k : ℕ) (ns : List ℕ) → AllByRecursion P ns → AllByRecursion P (without k ns)
all-without P k [] a = tt
all-without P k (n ∷ ns) a =
    elim (eqb n k) as (λ b. AllByRecursion P (cond b (without k ns) (n ∷ without k ns))) [
      | true ↦ all-without P k ns a.1
      | false ↦ (a.0, all-without P k ns a.1)
    ]

distinct-without : (k : ℕ) (ns : List ℕ) → IsDistinct eqb ns → IsDistinct eqb (without k ns)
unfolding IsDistinct
distinct-without k [] d = tt
distinct-without k (n ∷ ns) d =
    elim (eqb n k) as (λ b. IsDistinct eqb (cond b (without k ns) (n ∷ without k ns))) [
      | true ↦ distinct-without k ns d.1
      | false ↦ (all-without (λ m. eqb n m ≡ false) k ns d.0, distinct-without k ns d.1)
    ]

-- one number that may be below m
below-one : (m n : ℕ) (ns : List ℕ) (b : Bool) → eqb n m ≡ b → n < suc m → AllByRecursion (λ i. i < m) ns → AllByRecursion (λ i. i < m) (cond b ns (n ∷ ns))
below-one m n ns true e low rest = rest
below-one m n ns false e low rest = (grind (arith, nat_tests, e, low), rest)

-- those below m + 1 that aren't m are below m
below-without : (m : ℕ) (ns : List ℕ) → AllByRecursion (λ n. n < suc m) ns → AllByRecursion (λ n. n < m) (without m ns)
below-without m [] a = tt
below-without m (n ∷ ns) a = below-one m n (without m ns) (eqb n m) refl a.0 (below-without m ns a.1)

-- a number that isn't there takes nothing out
without-absent : (k : ℕ) (ns : List ℕ) → AllByRecursion (λ m. eqb k m ≡ false) ns → without k ns ≡ ns
without-absent k [] a = refl
without-absent k (n ∷ ns) a =
    let apart : eqb n k ≡ false = grind (arith, nat_tests, a.0) in
    rw apart (ap (λ xs. n ∷ xs) (without-absent k ns a.1))

-- taking out k takes f k out of the sum at most
sum-one : (f : ℕ → ℕ) (k n : ℕ) (ns : List ℕ) (b : Bool) → eqb n k ≡ b → AllByRecursion (λ m. eqb n m ≡ false) ns → sum_by f ns ≤ sum_by f (without k ns) + f k
    → f n + sum_by f ns ≤ sum_by f (cond b (without k ns) (n ∷ without k ns)) + f k
sum-one f k n ns true e apart within =
    let same : n ≡ k = grind (arith, nat_tests, e) in
    let P : ℕ → Type 0 = λ j. AllByRecursion (λ m. eqb j m ≡ false) ns in
    let none = without-absent k ns (subst P same apart) in
    rw (none, same) (omega arith)
sum-one f k n ns false e apart within = rw (sum_by-cons f n (without k ns)) (omega (arith, within))

sum-without : (f : ℕ → ℕ) (k : ℕ) (ns : List ℕ) → IsDistinct eqb ns → sum_by f ns ≤ sum_by f (without k ns) + f k
unfolding IsDistinct
sum-without f k [] d = omega arith
sum-without f k (n ∷ ns) d =
    let P : ℕ → Type 0 = λ t. t ≤ sum_by f (without k (n ∷ ns)) + f k in
    subst P (sym (sum_by-cons f n ns)) (sum-one f k n ns (eqb n k) refl d.0 (sum-without f k ns d.1))

-- numbers below m that differ: their sum is at most that of all numbers below m
sum-within : (f : ℕ → ℕ) (m : ℕ) (ns : List ℕ) → IsDistinct eqb ns → AllByRecursion (λ n. n < m) ns → sum_by f ns ≤ sum_below f m
sum-within f zero [] d a = omega arith
sum-within f zero (n ∷ ns) d a = absurd (omega (arith, a.0))
sum-within f (suc m) ns d a =
    omega (arith, sum-without f m ns d, sum-within f m (without m ns) (distinct-without m ns d) (below-without m ns a))

-- a test and its opposite
abbrev pub one_if : (ℕ → Bool) → ℕ → ℕ
one_if p n = cond (p n) 1 0

abbrev one_unless : (ℕ → Bool) → ℕ → ℕ
one_unless p n = cond (p n) 0 1

both-more : (b : Bool) (x y m : ℕ) → x + y ≡ m → cond b 1 0 + x + (cond b 0 1 + y) ≡ suc m
both-more true x y m e = omega (arith, e)
both-more false x y m e = omega (arith, e)

both-list : (p : ℕ → Bool) (ns : List ℕ) → sum_by (one_if p) ns + sum_by (one_unless p) ns ≡ length ns
both-list p [] = refl
both-list p (n ∷ ns) = rw (sum_by-cons (one_if p) n ns, sum_by-cons (one_unless p) n ns) (both-more (p n) _ _ (length ns) (both-list p ns))

both-step : (b : Bool) (x y m : ℕ) → x + y ≡ m → x + cond b 1 0 + (y + cond b 0 1) ≡ suc m
both-step true x y m e = omega (arith, e)
both-step false x y m e = omega (arith, e)

both-below : (p : ℕ → Bool) (m : ℕ) → sum_below (one_if p) m + sum_below (one_unless p) m ≡ m
both-below p zero = refl
both-below p (suc m) = both-step (p m) _ _ m (both-below p m)

-- as many numbers that differ as are below their number: as many pass as below it
pub all-numbers : (p : ℕ → Bool) (ns : List ℕ) → IsDistinct eqb ns → AllByRecursion (λ n. n < length ns) ns → sum_by (one_if p) ns ≡ sum_below (one_if p) (length ns)
all-numbers p ns d a =
    omega (arith, sum-within (one_if p) (length ns) ns d a, sum-within (one_unless p) (length ns) ns d a, both-list p ns, both-below p (length ns))

-- the sum below, the first apart
sum_below-first : (f : ℕ → ℕ) (m : ℕ) → sum_below f (suc m) ≡ f 0 + sum_below (λ n. f (suc n)) m
sum_below-first f zero = omega arith
sum_below-first f (suc m) = omega (arith, sum_below-first f m)

-- the kind of what is at a place
abbrev kind_at : {E : Type 0} → (E → Bool) → Option E → Bool
kind_at kind None = false
kind_at kind (Some e) = kind e

sum_below-list : {E : Type 0} (kind : E → Bool) (es : List E) → sum_below (one_if (λ n. kind_at kind (slice_get es n))) (length es) ≡ count_by kind es
sum_below-list kind [] = refl
sum_below-list kind (e ∷ es) = rw (sum_by-cons (λ x. cond (kind x) 1 0) e es) (sum_below-first (one_if (λ n. kind_at kind (slice_get (e ∷ es) n))) (length es) ∙ ap (λ k. cond (kind e) 1 0 + k) (sum_below-list kind es))

-- a place that has an element is below the length
pub below-place : {E : Type 0} (es : List E) (n : ℕ) (e : E) → slice_get es n ≡ Some e → n < length es
below-place [] n e h = absurd (cc h)
below-place (x ∷ es) zero e h = omega arith
below-place (x ∷ es) (suc n) e h = omega (arith, below-place es n e h)

-- the numbers of receipts that are of entries are below the number of entries
pub numbers-below : {E R : Type 0} (number : R → ℕ) (told : R → Bool) (kind : E → Bool) (es : List E) (rs : List R) → EachIsOf number told kind es rs → AllByRecursion (λ n. n < length es) (map number rs)
numbers-below number told kind es [] a = tt
numbers-below number told kind es (r ∷ rs) a = (below-place es (number r) a.0.0 a.0.1, numbers-below number told kind es rs a.1)

-- their kinds are those of the entries
kinds-told : {E R : Type 0} (number : R → ℕ) (told : R → Bool) (kind : E → Bool) (es : List E) (rs : List R) → EachIsOf number told kind es rs → count_by told rs ≡ sum_by (one_if (λ n. kind_at kind (slice_get es n))) (map number rs)
kinds-told number told kind es [] a = refl
kinds-told number told kind es (r ∷ rs) a =
    let here : told r ≡ kind_at kind (slice_get es (number r)) = a.0.2 ∙ sym (ap (kind_at kind) a.0.1) in
    rw (sum_by-cons (λ x. cond (told x) 1 0) r rs, sum_by-cons (one_if (λ n. kind_at kind (slice_get es n))) (number r) (map number rs), here, kinds-told number told kind es rs a.1) refl

pub counted : {E R : Type 0} (number : R → ℕ) (told : R → Bool) (kind : E → Bool) (rs : List R) (es : List E) → IsDistinct eqb (map number rs) → EachIsOf number told kind es rs → length rs ≡ length es → count_by told rs ≡ count_by kind es
counted number told kind rs es distinct each count =
    let p : ℕ → Bool = λ n. kind_at kind (slice_get es n) in
    let len : length (map number rs) ≡ length es = length-map rs number ∙ count in
    let below = numbers-below number told kind es rs each in
    let all = all-numbers p (map number rs) distinct (rw len below) in
    kinds-told number told kind es rs each ∙ (all ∙ (ap (λ m. sum_below (one_if p) m) len ∙ sum_below-list kind es))

-- ---- each place has its number

at-least : (k m : ℕ) (b : Bool) → eqb k m ≡ b → k < suc m → (k < m → 1 ≤ sum_below (one_if (eqb k)) m) → 1 ≤ sum_below (one_if (eqb k)) m + cond b 1 0
at-least k m true e low rest = omega arith
at-least k m false e low rest = let lower : k < m = grind (arith, nat_tests, e, low) in omega (arith, rest lower)

below-has : (k m : ℕ) → k < m → 1 ≤ sum_below (one_if (eqb k)) m
below-has k zero low = absurd (omega (arith, low))
below-has k (suc m) low = at-least k m (eqb k m) refl low (below-has k m)

passes-on : (a b : Bool) (all rest : ℕ) → 1 ≤ all → all ≡ cond a 1 0 + rest → (1 ≤ rest → b ≡ true) → (a || b) ≡ true
passes-on true b all rest some e next = refl
passes-on false b all rest some e next = next (omega (arith, some, e))

some-passes : (p : ℕ → Bool) (ns : List ℕ) → 1 ≤ sum_by (one_if p) ns → list_any p ns ≡ true
some-passes p [] some = absurd (omega (arith, some))
some-passes p (n ∷ ns) some = passes-on (p n) (list_any p ns) (sum_by (one_if p) (n ∷ ns)) (sum_by (one_if p) ns) some (sum_by-cons (one_if p) n ns) (some-passes p ns)

-- numbers that differ, as many as there are below their number: each of those is among them
pub each-number : (k : ℕ) (ns : List ℕ) → IsDistinct eqb ns → AllByRecursion (λ n. n < length ns) ns → k < length ns → list_any (eqb k) ns ≡ true
each-number k ns distinct below low = some-passes (eqb k) ns (omega (arith, below-has k (length ns) low, all-numbers (eqb k) ns distinct below))
