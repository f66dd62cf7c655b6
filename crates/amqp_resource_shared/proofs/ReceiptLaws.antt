-- Kinds of receipts and entries.
use Rattle.std.proofs.Common.{◌≡◌, ℕ, zero, suc, ◌<◌, Bool, true, false, ◌||◌, Some, List, [], ◌∷◌, length, count_by, eqb, slice_get, refl, sym, ◌∙◌, ap, subst, arith}
use Rattle.std.specs.List.{AllByRecursion, IsDistinct, list_any}
use Rattle.std.proofs.lemmas.Bool.Decides.{nat_tests}
use Rattle.std.proofs.lemmas.List.{length-map}
use Rattle.amqp_txn_types.specs.declared.id.TransactionId.{TransactionId}
use Rattle.amqp_resource_record.specs.declared.entry.Entry.{Entry}
use Rattle.amqp_resource_record.specs.declared.step.Step.{Step}
use Rattle.amqp_resource_shared.specs.Receipts.{EachOfEntry, HasReceipt, IsAmongReceipts, IsOf, IsOfEntry, is_recorded, is_told, number_of, numbers_of}
use Rattle.amqp_resource_shared.specs.declared.receipt.Receipt.{Receipt}
use Rattle.amqp_resource_shared.specs.declared.reply_code.ReplyCode.{ReplyCode}
use Rattle.amqp_resource_shared.proofs.Counting.{EachIsOf, below-place, counted, each-number, numbers-below}

same-kind : (kind : Step → List TransactionId → ReplyCode → Bool) (e : Entry) (r : Receipt) → IsOf e r → is_told kind r ≡ is_recorded kind e
same-kind kind e r is = λ i. kind (is.step i) (is.drawn i) (is.code i)

each-kind : (kind : Step → List TransactionId → ReplyCode → Bool) (es : List Entry) (rs : List Receipt) → EachOfEntry es rs → EachIsOf number_of (is_told kind) (is_recorded kind) es rs
each-kind kind es [] a = tt
each-kind kind es (r ∷ rs) a = ((a.0.0, a.0.1, same-kind kind a.0.0 r a.0.2), each-kind kind es rs a.1)

pub kinds-agree : (kind : Step → List TransactionId → ReplyCode → Bool) (rs : List Receipt) (es : List Entry) → IsDistinct eqb (numbers_of rs) → EachOfEntry es rs → length rs ≡ length es → count_by (is_told kind) rs ≡ count_by (is_recorded kind) es
kinds-agree kind rs es distinct each count = counted number_of (is_told kind) (is_recorded kind) rs es distinct (each-kind kind es rs each) count

-- ---- each entry has its receipt

-- a receipt with that number is among these
abbrev Found : ℕ → List Receipt → Type 0
Found k rs = (r : Receipt) × IsAmongReceipts rs r × (number_of r ≡ k)

found-or : (k : ℕ) (r : Receipt) (rs : List Receipt) (b any : Bool) → eqb k (number_of r) ≡ b → (b || any) ≡ true → (any ≡ true → Found k rs) → Found k (r ∷ rs)
found-or k r rs true any is e later = let same : number_of r ≡ k = grind (arith, nat_tests, is) in (r, (0, refl), same)
found-or k r rs false any is e later = let other = later e in (other.0, (suc other.1.0, other.1.1), other.2)

with-number : (k : ℕ) (rs : List Receipt) → list_any (eqb k) (numbers_of rs) ≡ true → Found k rs
with-number k [] e = absurd (cc e)
with-number k (r ∷ rs) e = found-or k r rs (eqb k (number_of r)) (list_any (eqb k) (numbers_of rs)) refl e (with-number k rs)

of-entry : (es : List Entry) (rs : List Receipt) (i : ℕ) (r : Receipt) → EachOfEntry es rs → slice_get rs i ≡ Some r → IsOfEntry es r
of-entry es [] i r each at = absurd (cc at)
of-entry es (x ∷ rs) zero r each at = let same : x ≡ r = cc at in subst (λ (y : Receipt). IsOfEntry es y) same each.0
of-entry es (x ∷ rs) (suc i) r each at = of-entry es rs i r each.1 at

all-below : (rs : List Receipt) (es : List Entry) → EachOfEntry es rs → length rs ≡ length es → AllByRecursion (λ n. n < length (numbers_of rs)) (numbers_of rs)
all-below rs es each count =
    let len : length (numbers_of rs) ≡ length es = length-map rs number_of ∙ count in
    let P : ℕ → Type 0 = λ m. AllByRecursion (λ n. n < m) (numbers_of rs) in
    let any : Step → List TransactionId → ReplyCode → Bool = λ s d c. true in
    subst P (sym len) (numbers-below number_of (is_told any) (is_recorded any) es rs (each-kind any es rs each))

pub entry-receipt : (rs : List Receipt) (es : List Entry) → IsDistinct eqb (numbers_of rs) → EachOfEntry es rs → length rs ≡ length es → (k : ℕ) (e : Entry) → slice_get es k ≡ Some e → HasReceipt rs k e
entry-receipt rs es distinct each count k e at =
    let low : k < length (numbers_of rs) = omega (arith, below-place es k e at, length-map rs number_of, count) in
    let found = with-number k rs (each-number k (numbers_of rs) distinct (all-below rs es each count) low) in
    let r = found.0 in
    let of = of-entry es rs found.1.0 r each found.1.1 in
    let there : slice_get es k ≡ Some of.0 = ap (slice_get es) (sym found.2) ∙ of.1 in
    let same : of.0 ≡ e = cc (there, at) in
    (r, found.1, found.2, subst (λ (x : Entry). IsOf x r) same of.2)
