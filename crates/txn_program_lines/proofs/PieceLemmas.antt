-- Cutting octets into pieces at each place that passes.
use Rattle.std.proofs.Common.{◌≡◌, ℕ, ◌+◌, ◌-◌, ◌<◌, ◌==◌, Bool, true, false, cond, not, Some, None, List, [], ◌∷◌, length, take, drop, refl, ◌∙◌, ap, subst, arith, take_all, length-drop, drop-drop}
use Rattle.std.specs.Prelude.{nat_lt, position}
use Rattle.std.specs.List.{slice_split, onto_first, position_or_len}
use Rattle.std.proofs.lemmas.Bool.Decides.{nat_tests}
use Rattle.std.proofs.lemmas.List.Splits.{slice_split_first}
use Rattle.txn_program_lines.specs.Cutting.{lines_of, without_last_empty}
use Rattle.txn_program_lines.specs.Lines.{ended}

-- some piece comes always, so words are left wherever octets may be
ended-onto_first : (b : ℕ) (pieces : List (List ℕ)) → ended (onto_first b pieces) ≡ None
ended-onto_first b [] = refl
ended-onto_first b (p ∷ pieces) = refl

pub ended-slice_split : (p : ℕ → Bool) (bs : List ℕ) → ended (slice_split p bs) ≡ None
ended-slice_split p [] = refl
ended-slice_split p (b ∷ bs) =
    elim (p b) as (λ t. ended (cond t ([] ∷ slice_split p bs) (onto_first b (slice_split p bs))) ≡ None) [
      | true ↦ refl
      | false ↦ ended-onto_first b (slice_split p bs)
    ]

-- a test that chose some place
chosen : (b : Bool) (k i : ℕ) → cond b (Some k) None ≡ Some i → (b ≡ true) × (k ≡ i)
chosen true k i e = (refl, cc)
chosen false k i e = cc

-- a test that chose none
unchosen : (b : Bool) (k : ℕ) → cond b (Some k) None ≡ None → b ≡ false
unchosen true k e = cc
unchosen false k e = refl

-- the first piece ends at the first place that passes
pub slice_split-found : (p : ℕ → Bool) (bs : List ℕ) (i : ℕ) → position p bs ≡ Some i → slice_split p bs ≡ take i bs ∷ slice_split p (drop (i + 1) bs)
slice_split-found p bs i e =
    let both = chosen (nat_lt (position_or_len p bs) (length bs)) (position_or_len p bs) i e in
    let within : position_or_len p bs < length bs = let t = both.0 in grind (arith, nat_tests) in
    let P : ℕ → Type 0 = λ k. slice_split p bs ≡ take k bs ∷ slice_split p (drop (k + 1) bs) in
    subst P both.1 (slice_split_first p bs 0 within)

-- where no place passes there is one piece
none-whole : (p : ℕ → Bool) (bs : List ℕ) → nat_lt (position_or_len p bs) (length bs) ≡ false → slice_split p bs ≡ bs ∷ []
none-whole p [] h = refl
none-whole p (b ∷ bs) h =
    elim (p b) as (λ t. nat_lt (cond (not t) (1 + position_or_len p bs) 0) (length (b ∷ bs)) ≡ false → cond t ([] ∷ slice_split p bs) (onto_first b (slice_split p bs)) ≡ (b ∷ bs) ∷ []) [
      | true ↦ λ g. absurd (grind (arith, nat_tests))
      | false ↦ λ g.
          let fewer : nat_lt (position_or_len p bs) (length bs) ≡ false = grind (arith, nat_tests) in
          ap (onto_first b) (none-whole p bs fewer)
    ] h

pub slice_split-whole : (p : ℕ → Bool) (bs : List ℕ) → position p bs ≡ None → slice_split p bs ≡ bs ∷ []
slice_split-whole p bs e = none-whole p bs (unchosen (nat_lt (position_or_len p bs) (length bs)) (position_or_len p bs) e)

-- a piece before others, of which some come always
before-onto_first : (piece : List ℕ) (b : ℕ) (pieces : List (List ℕ)) → without_last_empty (piece ∷ onto_first b pieces) ≡ piece ∷ without_last_empty (onto_first b pieces)
before-onto_first [] b [] = refl
before-onto_first [] b (p ∷ pieces) = refl
before-onto_first (c ∷ cs) b [] = refl
before-onto_first (c ∷ cs) b (p ∷ pieces) = refl

before-empty : (piece : List ℕ) (pieces : List (List ℕ)) → without_last_empty (piece ∷ [] ∷ pieces) ≡ piece ∷ without_last_empty ([] ∷ pieces)
before-empty [] pieces = refl
before-empty (c ∷ cs) pieces = refl

pub without_last_empty-before : (p : ℕ → Bool) (piece bs : List ℕ) → without_last_empty (piece ∷ slice_split p bs) ≡ piece ∷ without_last_empty (slice_split p bs)
without_last_empty-before p piece [] = before-empty piece []
without_last_empty-before p piece (b ∷ bs) =
    elim (p b) as (λ t. without_last_empty (piece ∷ cond t ([] ∷ slice_split p bs) (onto_first b (slice_split p bs))) ≡ piece ∷ without_last_empty (cond t ([] ∷ slice_split p bs) (onto_first b (slice_split p bs)))) [
      | true ↦ before-empty piece (slice_split p bs)
      | false ↦ before-onto_first piece b (slice_split p bs)
    ]

-- a line that isn't empty may be the last
pub without_last_empty-last : (bs : List ℕ) → 0 < length bs → without_last_empty (bs ∷ []) ≡ bs ∷ []
without_last_empty-last [] h = absurd (omega arith)
without_last_empty-last (b ∷ bs) h = refl

-- all of a list
whole : (bs : List ℕ) (n : ℕ) → length bs ≡ n → take n bs ≡ bs
whole bs n e = take_all n bs (omega arith)

-- what stands behind a place
behind : (bs : List ℕ) (i : ℕ) → take (length (drop i bs) - 1) (drop 1 (drop i bs)) ≡ drop (i + 1) bs
behind bs i = whole (drop 1 (drop i bs)) (length (drop i bs) - 1) (length-drop 1 (drop i bs)) ∙ drop-drop 1 i bs

-- the same, where the octets were cut in front of that place
pub slice_split-cut : (p : ℕ → Bool) (bs front back : List ℕ) (i : ℕ) → position p bs ≡ Some i → front ≡ take i bs → back ≡ drop i bs → slice_split p bs ≡ front ∷ slice_split p (take (length back - 1) (drop 1 back))
slice_split-cut p bs front back i e f b = rw (f, b, behind bs i) (slice_split-found p bs i e)

-- the last line
pub lines_of-last : (bs line : List ℕ) → 0 < length bs → slice_split (λ b. b == 10) bs ≡ line ∷ [] → line ≡ bs → lines_of bs ≡ line ∷ []
lines_of-last bs line some e same = ap without_last_empty e ∙ rw same (without_last_empty-last bs some)

-- a line before others
pub lines_of-more : (bs line after : List ℕ) → slice_split (λ b. b == 10) bs ≡ line ∷ slice_split (λ b. b == 10) after → lines_of bs ≡ line ∷ lines_of after
lines_of-more bs line after e = ap without_last_empty e ∙ without_last_empty-before (λ b. b == 10) line after
