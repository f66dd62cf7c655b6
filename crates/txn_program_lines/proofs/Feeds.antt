-- The first place that a search finds.
use Rattle.std.proofs.Common.{◌≡◌, ℕ, ◌<◌, Bool, true, false, cond, Option, Some, None, List, length, refl, sym, ◌∙◌, ap, arith}
use Rattle.std.specs.Prelude.{IfSome, nat_lt, position}
use Rattle.std.specs.List.{position_or_len}
use Rattle.std.proofs.lemmas.Bool.Decides.{nat_tests}
use Rattle.std.proofs.lemmas.List.Sums.{position_or_len_is}
use Rattle.std.proofs.Math.ListN.{get_or}
use Rattle.memchr.specs.Find.{IsFirstByte}

-- a test that doesn't pass fails
fails : (b : Bool) → (b ≡ true → ⊥) → b ≡ false
fails true not = absurd (not refl)
fails false not = refl

-- the first place that passes, by where it stands
placed : (p : ℕ → Bool) (bs : List ℕ) (i : ℕ) → position_or_len p bs ≡ i
    → position p bs ≡ cond (nat_lt i (length bs)) (Some i) None
placed p bs i e = ap (λ k. cond (nat_lt k (length bs)) (Some k) None) e

chosen : (b : Bool) (i : ℕ) → b ≡ true → Some i ≡ cond b (Some i) None
chosen true i e = refl
chosen false i e = absurd (cc e)

unchosen : (b : Bool) (i : ℕ) → b ≡ false → None ≡ cond b (Some i) None
unchosen true i e = absurd (cc e)
unchosen false i e = refl

-- what a search for bytes answers is the first place that passes
pub first-position : (p : ℕ → Bool) (bs : List ℕ) (r : Option ℕ) → IsFirstByte p bs r
    → r ≡ position p bs
first-position p bs None h =
    let at : position_or_len p bs ≡ length bs =
    position_or_len_is p bs (length bs) 0 (omega arith)
    (λ k less. fails (p (get_or bs k 0)) (h k (omega arith) less))
    (λ less. absurd (omega (arith, less))) in
    let no : nat_lt (length bs) (length bs) ≡ false = grind (arith, nat_tests) in
    unchosen (nat_lt (length bs) (length bs)) (length bs) no ∙ sym (placed p bs (length bs) at)
first-position p bs (Some k) h =
    let at : position_or_len p bs ≡ k =
    position_or_len_is p bs k 0 (let l = h.0.high in omega (arith, l))
    (λ j less. fails (p (get_or bs j 0)) (h.0.before j (omega arith) less))
    (λ less. h.1) in
    let yes : nat_lt k (length bs) ≡ true = let l = h.0.high in grind (arith, nat_tests) in
    chosen (nat_lt k (length bs)) k yes ∙ sym (placed p bs k at)

-- a place that a search finds lies within
pub first-within : (p : ℕ → Bool) (bs : List ℕ) (r : Option ℕ) → IsFirstByte p bs r
    → IfSome r (λ k. k < length bs)
first-within p bs None h = tt
first-within p bs (Some k) h = h.0.high
