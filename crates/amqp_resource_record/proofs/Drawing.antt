-- The draws of a declare, by their last.
use Rattle.std.proofs.Common.{◌≡◌, ◌≤◌, Bool, true, false, List, [], ◌∷◌, ◌++◌, length, refl, sym, ◌∙◌, ap}
use Rattle.std.specs.Prelude.{IsTrue, ◌↔◌}
use Rattle.std.specs.List.{list_all}
use Rattle.amqp_txn_types.specs.declared.id.TransactionId.{TransactionId}
use Rattle.amqp_resource_record.specs.declared.entry.Entry.{Entry}
use Rattle.amqp_txn_types.specs.Ids.{same_id}
use Rattle.amqp_resource_record.specs.Live.{is_live}
use Rattle.amqp_resource_record.specs.Answers.{Draws}
use Rattle.amqp_resource_record.proofs.Ids.{same_id-eq, same_id-refl}

no_snoc : {X : Type 0} (xs : List X) (x : X) → xs ++ x ∷ [] ≡ [] → ⊥
no_snoc [] x e = cc e
no_snoc (y ∷ xs) x e = cc e

-- a list with one more has one front and one last
snoc_parts : {X : Type 0} (xs ys : List X) (x y : X) → xs ++ x ∷ [] ≡ ys ++ y ∷ [] → (xs ≡ ys) × (x ≡ y)
snoc_parts [] [] x y e = (refl, cc e)
snoc_parts [] (z ∷ ys) x y e = let h : [] ≡ ys ++ y ∷ [] = cc e in absurd (no_snoc ys y (sym h))
snoc_parts (z ∷ xs) [] x y e = let h : xs ++ x ∷ [] ≡ [] = cc e in absurd (no_snoc xs x h)
snoc_parts (z ∷ xs) (w ∷ ys) x y e =
    let h : xs ++ x ∷ [] ≡ ys ++ y ∷ [] = cc e in
    let first : z ≡ w = cc e in
    let rest = snoc_parts xs ys x y h in (cc (first, rest.0), rest.1)

-- what was drawn last is the id that was declared
pub draws-other : (r : List Entry) (d before : List TransactionId) (last t : TransactionId) → d ≡ before ++ last ∷ [] → same_id last t ≡ false → (IsTrue false ↔ Draws r d t)
draws-other r d before last t e n = (
  λ f. cc f,
  λ w. let is : last ≡ t = (snoc_parts before w.0 last t (sym e ∙ w.1)).1 in
      let same : same_id last t ≡ true = ap (same_id last) (sym is) ∙ same_id-refl last in cc (same, n),
)

-- and those before it are the ids that were live
pub draws-last : (r : List Entry) (d before : List TransactionId) (last t : TransactionId) (b : Bool) → d ≡ before ++ last ∷ [] → same_id last t ≡ true → length d ≤ 16 → (IsTrue b ↔ ((list_all (is_live r) before ≡ true) × (is_live r t ≡ false))) → (IsTrue b ↔ Draws r d t)
draws-last r d before last t b e s few new = (
  λ f. let parts = new.0 f in (before, e ∙ ap (λ x. before ++ x ∷ []) (same_id-eq last t s), few, parts.0, parts.1),
  λ w. new.1 (ap (list_all (is_live r)) (snoc_parts before w.0 last t (sym e ∙ w.1)).0 ∙ w.3, w.4),
)
