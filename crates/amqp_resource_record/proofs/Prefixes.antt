-- Records by their first entries.
use Rattle.std.proofs.Common.{◌≡◌, ℕ, zero, suc, ◌+◌, ◌<◌, Bool, true, false, Some, List, [], ◌∷◌, ◌++◌, length, take, drop, get_or, set, refl, sym, ◌∙◌, ap, subst, append-nil, append_assoc, take-append-drop}
use Rattle.std.specs.Prelude.{IsTrue, ◌↔◌, slice_get}
use Rattle.std.proofs.Math.Seq.{drop-cons}
use Rattle.std.proofs.lemmas.List.{take_more, take_more_set}
use Rattle.amqp_txn_types.specs.declared.id.TransactionId.{TransactionId}
use Rattle.amqp_txn_types.specs.declared.performatives.Frame.{Frame}
use Rattle.amqp_resource_record.specs.declared.entry.Entry.{Entry}
use Rattle.amqp_resource_record.specs.Work.{handed_by, work}
use Rattle.amqp_resource_record.specs.Answers.{Answer}
use Rattle.amqp_resource_record.specs.Legal.{LegalAfter, IsLegal}
use Rattle.amqp_resource_record.proofs.Whole.{IsLegal-snoc, work-snoc}

cut_at : (r : List Entry) (i : ℕ) (e : Entry) → i < length r → e ≡ get_or r i e → take i r ++ e ∷ drop (suc i) r ≡ r
cut_at r i e h is = ap (λ x. take i r ++ x ∷ drop (suc i) r) is ∙ sym (ap (λ l. take i r ++ l) (drop-cons r i e h)) ∙ take-append-drop i r

next_front : (r : List Entry) (i : ℕ) (e : Entry) → i < length r → e ≡ get_or r i e → take (i + 1) r ≡ take i r ++ e ∷ []
next_front r i e h is = take_more r i e h ∙ ap (λ x. take i r ++ x ∷ []) (sym is)

-- one more entry of a legal record
pub legal-more : (r : List Entry) (i : ℕ) (e : Entry) (b : Bool) → i < length r → e ≡ get_or r i e → IsLegal (take i r) → (IsTrue b ↔ Answer (take i r) e.step e.drawn.ids e.reply) → b ≡ true → IsLegal (take (i + 1) r)
legal-more r i e b h is l a t = subst IsLegal (sym (next_front r i e h is)) (IsLegal-snoc (take i r) e l (a.0 t))

LegalAfter-at : (before r s : List Entry) (e : Entry) → LegalAfter before (r ++ e ∷ s) → Answer (before ++ r) e.step e.drawn.ids e.reply
LegalAfter-at before [] s e l = let P : List Entry → Type 0 = λ b. Answer b e.step e.drawn.ids e.reply in subst P (sym (append-nil before)) l.0
LegalAfter-at before (x ∷ r) s e l =
    let P : List Entry → Type 0 = λ b. Answer b e.step e.drawn.ids e.reply in
    subst P (append_assoc before (x ∷ []) r) (LegalAfter-at (before ++ x ∷ []) r s e l.1)

-- each entry of a legal record is an answer after those before it
IsLegal-at : (r s : List Entry) (e : Entry) → IsLegal (r ++ e ∷ s) → Answer r e.step e.drawn.ids e.reply
unfolding IsLegal
IsLegal-at r s e l = LegalAfter-at [] r s e l

-- an entry that is no answer makes the record no legal one
pub illegal-at : (r : List Entry) (i : ℕ) (e : Entry) (b : Bool) → i < length r → e ≡ get_or r i e → (IsTrue b ↔ Answer (take i r) e.step e.drawn.ids e.reply) → b ≡ false → (IsTrue false ↔ IsLegal r)
illegal-at r i e b h is a f = (
  λ t. cc t,
  λ l. let yes : b ≡ true = a.1 (IsLegal-at (take i r) (drop (suc i) r) e (subst IsLegal (sym (cut_at r i e h is)) l)) in cc (yes, f),
)

-- what the record handed, with one entry more
pub work-more : (r : List Entry) (i : ℕ) (e : Entry) (all new handed : List Frame) → i < length r → e ≡ get_or r i e → all ≡ work (take i r) → handed ≡ handed_by (take i r) e.step e.reply → new ≡ all ++ handed → new ≡ work (take (i + 1) r)
work-more r i e all new handed h is so by_hands more =
    more ∙ ap (λ l. l ++ handed) so ∙ ap (λ l. work (take i r) ++ l) by_hands
    ∙ sym (work-snoc (take i r) e) ∙ ap work (sym (next_front r i e h is))

pub no_work : work [] ≡ []
unfolding work
no_work = refl

get_or-got : {X : Type 0} (xs : List X) (i : ℕ) (d y : X) → slice_get xs i ≡ Some y → get_or xs i d ≡ y
get_or-got [] i d y h = cc h
get_or-got (x ∷ xs) zero d y h = cc h
get_or-got (x ∷ xs) (suc i) d y h = get_or-got xs i d y h

-- one more of the ids, written at its place
pub written-more : (ids drawn : List TransactionId) (i : ℕ) (id : TransactionId) → i < length ids → i < length drawn → Some id ≡ slice_get drawn i → take i ids ≡ take i drawn → take (i + 1) (set ids i id) ≡ take (i + 1) drawn
written-more ids drawn i id h g is so =
    take_more_set ids i id h ∙ ap (λ l. l ++ id ∷ []) so
    ∙ sym (take_more drawn i id g ∙ ap (λ x. take i drawn ++ x ∷ []) (get_or-got drawn i id id (sym is)))
