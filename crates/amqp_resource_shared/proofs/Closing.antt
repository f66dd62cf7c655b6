-- Receipts, one after another.
use Rattle.std.proofs.Common.{◌≡◌, ℕ, zero, suc, ◌+◌, ◌<◌, Option, Some, None, List, [], ◌∷◌, ◌++◌, length, take, slice_get, get_or, eqb, MatchOption, remove, refl, sym, ◌∙◌, ap, subst, arith}
use Rattle.std.specs.List.{IsDistinct}
use Rattle.std.proofs.lemmas.List.{length-map}
use Rattle.amqp_resource_record.specs.declared.entry.Entry.{Entry}
use Rattle.amqp_resource_shared.specs.declared.receipt.Receipt.{Receipt}
use Rattle.amqp_resource_shared.specs.Receipts.{EachOfEntry, IsOfEntry, NotOfEntry, number_of, numbers_of}
use Rattle.amqp_resource_shared.proofs.Few.{take-next}

numbers-push : (rs : List Receipt) (x : Receipt) → numbers_of (rs ++ x ∷ []) ≡ numbers_of rs ++ number_of x ∷ []
numbers-push [] x = refl
numbers-push (r ∷ rs) x = ap (λ l. number_of r ∷ l) (numbers-push rs x)

-- the numbers of one receipt more
pub numbers-next : (rs : List Receipt) (i : ℕ) (x : Receipt) → slice_get rs i ≡ Some x → numbers_of (take (i + 1) rs) ≡ numbers_of (take i rs) ++ number_of x ∷ []
numbers-next rs i x at = ap (λ l. numbers_of l) (take-next rs i x at) ∙ numbers-push (take i rs) x

each-push : (es : List Entry) (rs : List Receipt) (x : Receipt) → EachOfEntry es rs → IsOfEntry es x → EachOfEntry es (rs ++ x ∷ [])
each-push es [] x a p = (p, tt)
each-push es (r ∷ rs) x a p = (a.0, each-push es rs x a.1 p)

-- one receipt more that is of its entry
pub each-next : (es : List Entry) (rs : List Receipt) (i : ℕ) (x : Receipt) → slice_get rs i ≡ Some x → EachOfEntry es (take i rs) → IsOfEntry es x → EachOfEntry es (take (i + 1) rs)
each-next es rs i x at each is = let P : List Receipt → Type 0 = λ l. EachOfEntry es l in subst P (sym (take-next rs i x at)) (each-push es (take i rs) x each is)

-- what is read at a place stands there
pub read-at : (rs : List Receipt) (i : ℕ) (x : Receipt) → i < length rs → x ≡ get_or rs i x → slice_get rs i ≡ Some x
read-at [] i x low at = absurd (omega (arith, low))
read-at (r ∷ rs) zero x low at = ap (λ y. Some y) (sym at)
read-at (r ∷ rs) (suc i) x low at = read-at rs i x (omega (arith, low)) at

-- a receipt that isn't of its entry
pub not-at : (es : List Entry) (rs : List Receipt) (i : ℕ) (x : Receipt) → slice_get rs i ≡ Some x → (IsOfEntry es x → ⊥) → NotOfEntry es (slice_get rs i)
not-at es rs i x at apart = let P : Option Receipt → Type 0 = λ o. NotOfEntry es o in subst P (sym at) apart

-- there are as many numbers as receipts
pub numbers-length : (rs : List Receipt) → length (numbers_of rs) ≡ length rs
numbers-length rs = length-map rs number_of

-- what the search for a number that stands twice found
pub repeated-says : (rs told : List Receipt) (found : Option (ℕ × ℕ)) (p : ℕ × ℕ) → told ≡ rs
    → MatchOption found (IsDistinct eqb (numbers_of told)) (λ places. (places.0 < places.1) × (places.1 < length told) × (slice_get (numbers_of told) places.0 ≡ slice_get (numbers_of told) places.1))
    → found ≡ Some p → (p.0 < p.1) × (p.1 < length rs) × (slice_get (numbers_of rs) p.0 ≡ slice_get (numbers_of rs) p.1)
repeated-says rs told None p e says is = absurd (cc is)
repeated-says rs told (Some q) p e says is =
    let same : q ≡ p = cc is in
    let P : ℕ × ℕ → Type 0 = λ x. (x.0 < x.1) × (x.1 < length told) × (slice_get (numbers_of told) x.0 ≡ slice_get (numbers_of told) x.1) in
    let Q : List Receipt → Type 0 = λ l. (p.0 < p.1) × (p.1 < length l) × (slice_get (numbers_of l) p.0 ≡ slice_get (numbers_of l) p.1) in
    subst Q e (subst P same says)

pub distinct-says : (rs told : List Receipt) (found : Option (ℕ × ℕ)) (Q : ℕ × ℕ → Type 0) → told ≡ rs → MatchOption found (IsDistinct eqb (numbers_of told)) Q → found ≡ None → IsDistinct eqb (numbers_of rs)
distinct-says rs told None Q e says is = subst (λ (l : List Receipt). IsDistinct eqb (numbers_of l)) e says
distinct-says rs told (Some q) Q e says is = absurd (cc is)

number-at : (rs : List Receipt) (i : ℕ) (r : Receipt) → slice_get rs i ≡ Some r → slice_get (numbers_of rs) i ≡ Some (number_of r)
number-at [] i r at = absurd (cc at)
number-at (x ∷ rs) zero r at = let same : x ≡ r = cc at in ap (λ y. Some (number_of y)) same
number-at (x ∷ rs) (suc i) r at = number-at rs i r at

-- two receipts at places of one number
pub number-same : (rs : List Receipt) (i j : ℕ) (a b : Receipt) → slice_get rs i ≡ Some a → slice_get rs j ≡ Some b → slice_get (numbers_of rs) i ≡ slice_get (numbers_of rs) j → number_of a ≡ number_of b
number-same rs i j a b at there same =
    let x = number-at rs i a at in
    let y = number-at rs j b there in
    cc (x, y, same)

-- the receipt at a place isn't of its entry
pub not-of : (es : List Entry) (told rs : List Receipt) (i : ℕ) (r : Receipt) → told ≡ rs → NotOfEntry es (slice_get told i) → slice_get rs i ≡ Some r → IsOfEntry es r → ⊥
not-of es told rs i r e none at =
    let P : List Receipt → Type 0 = λ l. NotOfEntry es (slice_get l i) in
    let Q : Option Receipt → Type 0 = λ o. NotOfEntry es o in
    subst Q at (subst P e none)

before : (ys : List Receipt) (k m : ℕ) (z : Receipt) → k < m → m < length ys → slice_get (remove ys m) k ≡ Some z → slice_get ys k ≡ Some z
before [] k m z low within at = absurd (omega (arith, within))
before (y ∷ ys) zero zero z low within at = absurd (omega (arith, low))
before (y ∷ ys) zero (suc m) z low within at = at
before (y ∷ ys) (suc k) zero z low within at = absurd (omega (arith, low))
before (y ∷ ys) (suc k) (suc m) z low within at = before ys k m z (omega (arith, low)) (omega (arith, within)) at

-- what is at a place stays there where one after it is taken out
pub read-before : (rs left : List Receipt) (i j : ℕ) (x : Receipt) → left ≡ remove rs j → i < j → j < length rs → slice_get left i ≡ Some x → slice_get rs i ≡ Some x
read-before rs left i j x e low within at = before rs i j x low within (ap (λ l. slice_get l i) (sym e) ∙ at)
