-- A whole audit: the lines so far, and what is left of them.
use Rattle.std.proofs.Common.{◌≡◌, ℕ, zero, suc, ◌+◌, ◌≤◌, ◌<◌, ◌&&◌, nat_lt, length, drop, slice_get, arith, Bool, true, false, Some, None, Result, Ok, Err, List, [], ◌∷◌, ◌++◌, refl, sym, ◌∙◌, ap, subst, append_assoc, IfOk, ◌⊎◌, inl, inr}
use Rattle.std.specs.Borrow.{Bor}
use Rattle.std.proofs.lemmas.Bool.Decides.{nat_tests}
use Rattle.amqp_txn_types.specs.declared.items.NoMemory.{NoMemory}
use Rattle.amqp_txn_types.specs.declared.id.TransactionId.{TransactionId}
use Rattle.amqp_txn_types.specs.declared.performatives.Frame.{Frame}
use Rattle.amqp_resource_record.specs.declared.step.Step.{Step}
use Rattle.amqp_resource_record.specs.declared.entry.Entry.{Entry}
use Rattle.amqp_resource_record.proofs.Prefixes.{no_work}
use Rattle.amqp_resource_held.specs.declared.held.Held.{Held}
use Rattle.amqp_resource_held.specs.Held.{Stands}
use Rattle.txn_program_lines.specs.Cutting.{lines_of}
use Rattle.txn_audit_fits.specs.declared.judged_lines.Judged.{Judged}
use Rattle.txn_audit_fits.specs.declared.judged_lines.Judged.TheVariants as judged
use Rattle.txn_audit_fits.specs.Explaining.{DepartsAt, EndsHere, JudgesEnd}
use Rattle.txn_audit_fits.specs.Passing.{shows_first}
use Rattle.txn_audit_fits.specs.Walking.{After, JudgesAll, JudgesStep, MayStandFor, StandsWith, goes_on}
use Rattle.txn_audit_fits.proofs.Departing.{departs-behind}
use Rattle.txn_audit_fits.proofs.Walking.{after_fits, ends_after}
use Rattle.txn_audit_fits.proofs.Going.{goes-reply}

-- the lines are those passed and the rest; what is kept stands for a record after which what explains
-- what follows those passed explains all, and what explains all does so with such a record
pub record Audited (held : Held) (handed : List Frame) (steps : List Step) (ids : ℕ → TransactionId) (lines : List (List ℕ)) (left : List Step) (next : ℕ → TransactionId) (rest : List (List ℕ)) : Type 0 where
  pub passed : List (List ℕ)
  pub parts : lines ≡ passed ++ rest
  pub some : (before : List Entry) × StandsWith held handed before
      × ((all : Bool) (others : List (List ℕ)) → After all before left next others → After all [] steps ids (passed ++ others))
  pub each : (all : Bool) (others : List (List ℕ)) → MayStandFor rest others → After all [] steps ids (passed ++ others) → (before : List Entry) × StandsWith held handed before × After all before left next others

pub audit-new : (h : Held) (handed : List Frame) (steps : List Step) (ids : ℕ → TransactionId) (lines : List (List ℕ)) → Stands h [] → handed ≡ [] → Audited h handed steps ids lines steps ids lines
audit-new h handed steps ids lines s e = record {
  passed = [];
  parts = refl;
  some = ([], (s, e ∙ sym no_work), λ all others a. a);
  each = λ all others m a. ([], (s, e ∙ sym no_work), a);
}

module _ (steps : List Step) (ids : ℕ → TransactionId) (lines : List (List ℕ)) (old new : Held) (was now : List Frame) (step : Step) (left : List Step) (next later : ℕ → TransactionId) (here : List (List ℕ)) (a : Audited old was steps ids lines (step ∷ left) next here) where
  pub audit-step : (rest : Bor (List ℕ)) → JudgesStep old new was now next later step here (judged.Explained rest) → Audited new now steps ids lines left later (lines_of rest.now)
  audit-step rest j =
      let x = a.some in
      let first = j.line ∷ j.outs in
      let y = (j.explains x.0 x.1).some in
      let joined : (others : List (List ℕ)) → (a.passed ++ first) ++ others ≡ a.passed ++ (first ++ others) = λ others. append_assoc a.passed first others in
      record {
        passed = a.passed ++ first;
        parts = a.parts ∙ ap (λ ls. a.passed ++ ls) j.parts ∙ sym (joined (lines_of rest.now));
        some = (
          x.0 ++ y.0 ∷ [],
          y.1,
          λ all others b. subst (λ (ls : List (List ℕ)). After all [] steps ids ls) (sym (joined others)) (x.2 all (first ++ others) (y.2 all left others b)),
        );
        each = λ all others m b.
            let same : MayStandFor here (first ++ others) = λ n. sym (ap shows_first j.parts) ∙ n in
            let v = a.each all (first ++ others) same (subst (λ (ls : List (List ℕ)). After all [] steps ids ls) (joined others) b) in
            let z = (j.explains v.0 v.1).each all left others m v.2 in
            (v.0 ++ z.0 ∷ [], z.1, z.2);
      }

  -- what departs here departs from the whole
  pub audit-none : (rest : Bor (List ℕ)) → JudgesStep old new was now next later step here (judged.Departs rest) → JudgesAll steps ids lines (judged.Departs rest)
  audit-none rest j =
      let x = a.some in
      subst (λ (ls : List (List ℕ)). DepartsAt (λ all said. After all [] steps ids said) ls (lines_of rest.now)) (sym a.parts)
      (departs-behind (StandsWith old was) (λ before all said. After all before (step ∷ left) next said) (λ all said. After all [] steps ids said) a.passed here (lines_of rest.now) (λ before s. j before s left) x.0 x.1 (λ said p. x.2 false said p) (λ all said same q. a.each all said (λ n. same.shows ∙ n) q))

after_ends : (all : Bool) (before : List Entry) (left : List Step) (next : ℕ → TransactionId) (rest : List (List ℕ)) → (goes_on rest ≡ false) ⊎ (left ≡ []) → After all before left next rest → EndsHere all before left rest
after_ends all before [] next rest n x = x
after_ends all before (step ∷ left) next rest n (inl x) = x
after_ends all before (step ∷ left) next rest (inl n) (inr x) = let y = goes-reply rest (x.2 ++ x.3) x.1 x.6 in absurd (cc (y, n))
after_ends all before (step ∷ left) next rest (inr n) (inr x) = absurd (cc n)

goes_same : (left : List Step) (lines said : List (List ℕ)) → goes_on said ≡ goes_on lines → (goes_on lines ≡ false) ⊎ (left ≡ []) → (goes_on said ≡ false) ⊎ (left ≡ [])
goes_same left lines said e (inl n) = inl (e ∙ n)
goes_same left lines said e (inr n) = inr n

-- what a judge of the end answers, of the whole
module _ (steps : List Step) (ids : ℕ → TransactionId) (lines : List (List ℕ)) (h : Held) (handed : List Frame) (left : List Step) (next : ℕ → TransactionId) (rest : List (List ℕ)) (a : Audited h handed steps ids lines left next rest) (n : (goes_on rest ≡ false) ⊎ (left ≡ [])) where
  audit-end : (o : Judged) → ((before : List Entry) → StandsWith h handed before → JudgesEnd before left rest o) → JudgesAll steps ids lines o
  audit-end (judged.Explained others) j =
      let x = a.some in
      after_fits steps ids lines (subst (λ (ls : List (List ℕ)). After true [] steps ids ls) (sym a.parts) (x.2 true rest (ends_after true x.0 left next rest (j x.0 x.1))))
  audit-end (judged.Departs others) j =
      let x = a.some in
      subst (λ (ls : List (List ℕ)). DepartsAt (λ all said. After all [] steps ids said) ls (lines_of others.now)) (sym a.parts)
      (departs-behind (StandsWith h handed) (λ before all said. EndsHere all before left said) (λ all said. After all [] steps ids said) a.passed rest (lines_of others.now) j x.0 x.1
      (λ said p. x.2 false said (ends_after false x.0 left next said p))
      (λ all said same q. let v = a.each all said (λ m. same.shows ∙ m) q in (v.0, v.1, after_ends all v.0 left next said (goes_same left rest said same.goes n) v.2)))

  pub audit-ended : (r : Result Judged NoMemory) → ((before : List Entry) → StandsWith h handed before → IfOk r (JudgesEnd before left rest)) → IfOk r (JudgesAll steps ids lines)
  audit-ended (Ok o) j = audit-end o j
  audit-ended (Err e) j = tt

-- ---- places

-- a place that holds a step
pub has-step : (xs : List Step) (i : ℕ) → i < length xs → slice_get xs i ≡ None → ⊥
has-step [] i l e = omega arith
has-step (x ∷ xs) zero l e = cc e
has-step (x ∷ xs) (suc i) l e = has-step xs i (omega arith) e

-- the step at a place, and those after it
pub drop-step : (xs : List Step) (i : ℕ) (x : Step) → slice_get xs i ≡ Some x → drop i xs ≡ x ∷ drop (i + 1) xs
drop-step [] i x e = absurd (cc e)
drop-step (y ∷ xs) zero x e = let f : y ≡ x = cc e in ap (λ t. t ∷ xs) f
drop-step (y ∷ xs) (suc i) x e = drop-step xs i x e ∙ ap (λ k. x ∷ drop k (y ∷ xs)) (let g : suc (i + 1) ≡ suc i + 1 = omega arith in g)

pub drop-none : (xs : List Step) (i : ℕ) → length xs ≤ i → drop i xs ≡ []
drop-none [] zero l = refl
drop-none [] (suc i) l = refl
drop-none (x ∷ xs) zero l = absurd (omega arith)
drop-none (x ∷ xs) (suc i) l = drop-none xs i (omega arith)

-- no line that answers a step
pub not-answered : (on : Bool) (steps : List Step) (i : ℕ) → (on && nat_lt i (length steps)) ≡ false → (on ≡ false) ⊎ (drop i steps ≡ [])
not-answered false steps i e = inl refl
not-answered true steps i e = inr (drop-none steps i (grind (arith, nat_tests)))

pub drop-nothing : (xs : List Step) (i : ℕ) → slice_get xs i ≡ None → drop i xs ≡ []
drop-nothing [] zero e = refl
drop-nothing [] (suc i) e = refl
drop-nothing (x ∷ xs) zero e = absurd (cc e)
drop-nothing (x ∷ xs) (suc i) e = drop-nothing xs i e
