-- Lines that are explained up to one of them.
use Rattle.std.proofs.Common.{◌≡◌, ℕ, suc, ◌+◌, ◌≤◌, ◌<◌, Bool, true, false, List, [], ◌∷◌, ◌++◌, length, take, refl, sym, ◌∙◌, ap, subst, arith, append-nil, append_assoc}
use Rattle.std.proofs.lemmas.List.{length-append}
use Rattle.amqp_txn_types.specs.declared.id.TransactionId.{TransactionId}
use Rattle.amqp_resource_record.specs.declared.step.Step.{Step}
use Rattle.amqp_resource_record.specs.declared.entry.Entry.{Entry}
use Rattle.txn_audit_fits.specs.Departing.{Begins, Departs}
use Rattle.txn_audit_fits.specs.Explaining.{DepartsAt}
use Rattle.txn_audit_fits.specs.Passing.{shows_first}
use Rattle.txn_audit_fits.specs.Walking.{After, goes_on}
use Rattle.txn_audit_fits.proofs.Walking.{after_begins, begins_after, fits_after}

-- the first line is the same
pub record SameFirst (lines said : List (List ℕ)) : Type 0 where
  pub shows : shows_first said ≡ shows_first lines
  pub goes : goes_on said ≡ goes_on lines

same_after : (passed : List (List ℕ)) (line : List ℕ) (others more : List (List ℕ)) → SameFirst (passed ++ (line ∷ others)) (passed ++ (line ∷ more))
same_after [] line others more = record { shows = refl; goes = refl }
same_after (x ∷ passed) line others more = record { shows = refl; goes = refl }

first-lines : (passed rest : List (List ℕ)) → take (length passed) (passed ++ rest) ≡ passed
first-lines [] rest = refl
first-lines (x ∷ passed) rest = ap (λ ls. x ∷ ls) (first-lines passed rest)

-- the same lines are before the same rest
same_passed : (p q rest lines : List (List ℕ)) → lines ≡ p ++ rest → lines ≡ q ++ rest → p ≡ q
same_passed p q rest lines e f =
    let n : length p ≡ length q = omega (arith, ap length e ∙ length-append p rest, ap length f ∙ length-append q rest) in
    sym (first-lines p rest) ∙ ap (take (length p)) (sym e) ∙ ap (λ k. take k lines) n ∙ ap (take (length q)) f ∙ first-lines q rest

-- behind other lines, of which something else is said by some record
module _ (Holds : List Entry → Type 0) (P : List Entry → Bool → List (List ℕ) → Type 0) (Q : Bool → List (List ℕ) → Type 0) (front lines rest : List (List ℕ)) where
  pub departs-behind : ((before : List Entry) → Holds before → DepartsAt (P before) lines rest) → (before : List Entry) → Holds before → ((said : List (List ℕ)) → P before false said → Q false (front ++ said)) → ((all : Bool) (said : List (List ℕ)) → SameFirst lines said → Q all (front ++ said) → (other : List Entry) × Holds other × P other all said) → DepartsAt Q (front ++ lines) rest
  departs-behind at before holds there back =
      let d = at before holds in
      record {
        passed = front ++ d.passed;
        parts = ap (λ ls. front ++ ls) d.parts ∙ sym (append_assoc front d.passed rest);
        begins = (d.begins.0, subst (λ (ls : List (List ℕ)). Q false ls) (sym (append_assoc front d.passed d.begins.0)) (there (d.passed ++ d.begins.0) d.begins.1));
        first = λ line others more e q.
            let same : lines ≡ d.passed ++ (line ∷ others) = d.parts ∙ ap (λ ls. d.passed ++ ls) e in
            let v = back false (d.passed ++ (line ∷ more)) (subst (λ (ls : List (List ℕ)). SameFirst ls (d.passed ++ (line ∷ more))) (sym same) (same_after d.passed line others more)) (subst (λ (ls : List (List ℕ)). Q false ls) (append_assoc front d.passed (line ∷ more)) q) in
            let w = at v.0 v.1 in
            w.first line others more e (subst (λ (ls : List (List ℕ)). P v.0 false (ls ++ (line ∷ more))) (same_passed d.passed w.passed rest lines d.parts w.parts) v.2);
        none = λ q. let v = back true lines (record { shows = refl; goes = refl }) q in (at v.0 v.1).none v.2;
      }

-- at the first of the lines, or where there is none
pub departs-here : (P : Bool → List (List ℕ) → Type 0) (lines rest more : List (List ℕ)) → lines ≡ rest → P false more → ((line : List ℕ) (others more : List (List ℕ)) → rest ≡ line ∷ others → P false (line ∷ more) → ⊥) → (P true lines → ⊥) → DepartsAt P lines rest
departs-here P lines rest more e p f n = record { passed = []; parts = e; begins = (more, p); first = f; none = n }

-- ---- the whole

one-more : (passed others : List (List ℕ)) (line : List ℕ) → take (length passed + 1) (passed ++ (line ∷ others)) ≡ passed ++ line ∷ []
one-more [] others line = refl
one-more (x ∷ passed) others line =
    let n : length (x ∷ passed) + 1 ≡ suc (length passed + 1) = omega arith in
    ap (λ k. take k (x ∷ (passed ++ (line ∷ others)))) n ∙ ap (λ ls. x ∷ ls) (one-more passed others line)

-- lines are left, where there are more than those passed
some-left : (passed rest : List (List ℕ)) → length passed < length (passed ++ rest) → (line : List ℕ) × (others : List (List ℕ)) × (rest ≡ line ∷ others)
some-left passed [] l = let e = ap length (append-nil passed) in absurd (omega (arith, l, e))
some-left passed (line ∷ others) l = (line, others, refl)

-- the lines passed are those that are in front of the rest
passed-count : (passed rest lines : List (List ℕ)) (before : ℕ) → lines ≡ passed ++ rest → before + length rest ≡ length lines → before ≡ length passed
passed-count passed rest lines before e l = let f = ap length e ∙ length-append passed rest in omega (arith, f, l)

departs_front : (steps : List Step) (next : ℕ → TransactionId) (passed rest more : List (List ℕ)) → After false [] steps next (passed ++ more) → ((line : List ℕ) (others later : List (List ℕ)) → rest ≡ line ∷ others → After false [] steps next (passed ++ (line ∷ later)) → ⊥) → (After true [] steps next (passed ++ rest) → ⊥) → Departs steps next (passed ++ rest) (length passed)
departs_front steps next passed rest more begins other none = record {
  within = omega (arith, length-append passed rest);
  begins = subst (λ (ls : List (List ℕ)). Begins steps next ls) (sym (first-lines passed rest)) (after_begins steps next passed more begins);
  first = λ less. no (some-left passed rest less);
  none = λ f. none (fits_after steps next (passed ++ rest) f);
}
  where
    no : ((line : List ℕ) × (others : List (List ℕ)) × (rest ≡ line ∷ others)) → Begins steps next (take (length passed + 1) (passed ++ rest)) → ⊥
    no some b =
        let e : take (length passed + 1) (passed ++ rest) ≡ passed ++ some.0 ∷ [] = ap (λ (ls : List (List ℕ)). take (length passed + 1) (passed ++ ls)) some.2 ∙ one-more passed some.1 some.0 in
        let a = begins_after steps next (passed ++ some.0 ∷ []) (subst (λ (ls : List (List ℕ)). Begins steps next ls) e b) in
        other some.0 some.1 a.0 some.2 (subst (λ (ls : List (List ℕ)). After false [] steps next ls) (append_assoc passed (some.0 ∷ []) a.0) a.1)

pub departs-all : (steps : List Step) (next : ℕ → TransactionId) (lines rest : List (List ℕ)) (before : ℕ) → before + length rest ≡ length lines → DepartsAt (λ all said. After all [] steps next said) lines rest → Departs steps next lines before
departs-all steps next lines rest before l d =
    let none : After true [] steps next (d.passed ++ rest) → ⊥ = λ a. d.none (subst (λ (ls : List (List ℕ)). After true [] steps next ls) (sym d.parts) a) in
    let x : Departs steps next (d.passed ++ rest) (length d.passed) = departs_front steps next d.passed rest d.begins.0 d.begins.1 d.first none in
    let y : Departs steps next lines (length d.passed) = subst (λ (ls : List (List ℕ)). Departs steps next ls (length d.passed)) (sym d.parts) x in
    subst (λ (n : ℕ). Departs steps next lines n) (sym (passed-count d.passed rest lines before d.parts l)) y

-- how many lines are passed
pub counts-less : (steps : List Step) (next : ℕ → TransactionId) (lines rest : List (List ℕ)) → DepartsAt (λ all said. After all [] steps next said) lines rest → length rest ≤ length lines
counts-less steps next lines rest d = let f = ap length d.parts ∙ length-append d.passed rest in omega (arith, f)
