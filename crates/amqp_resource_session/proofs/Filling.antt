-- A list of entries that is filled in from its front: the entries before a place are answered, and
-- those from there on hold the steps that are left.
use Rattle.std.proofs.Common.{◌≡◌, ℕ, zero, suc, ◌+◌, ◌<◌, ◌≤◌, List, [], ◌∷◌, ◌++◌, length, take, drop, map, get_or, set, refl, sym, ◌∙◌, ap, add-one, arith, take-append-drop}
use Rattle.std.proofs.Math.Seq.{drop-cons, take-suc-set}
use Rattle.std.proofs.lemmas.List.{map-append}
use Rattle.amqp_resource_record.specs.declared.entry.Entry.{Entry}
use Rattle.amqp_resource_record.specs.declared.step.Step.{Step}
use Rattle.amqp_resource_record.specs.Entries.{steps_of}
use Rattle.amqp_resource_record.specs.Waiting.{awaiting}
use Rattle.amqp_resource_session.specs.Drive.{Left}

-- entries that wait hold their steps
pub steps_waiting : (all : List Step) → steps_of (map awaiting all) ≡ all
steps_waiting [] = refl
steps_waiting (s ∷ all) = ap (λ (l : List Step). s ∷ l) (steps_waiting all)

-- the step at a place is the next one
pub left_at : (all : List Step) (es : List Entry) (k : ℕ) (e : Entry) → steps_of es ≡ all → k < length es → e ≡ get_or es k e → Left all (take k es) (e.step ∷ steps_of (drop (suc k) es))
left_at all es k e same h is =
    sym same
    ∙ ap steps_of (sym (take-append-drop k es) ∙ ap (λ (l : List Entry). take k es ++ l) (drop-cons es k e h ∙ ap (λ (x : Entry). x ∷ drop (suc k) es) (sym is)))
    ∙ map-append (λ (x : Entry). x.step) (take k es) (e ∷ drop (suc k) es)

-- one more is answered
pub filled_more : (es : List Entry) (k : ℕ) (e : Entry) → k < length es → take (k + 1) (set es k e) ≡ take k es ++ e ∷ []
filled_more es k e h = ap (λ (n : ℕ). take n (set es k e)) (add-one k) ∙ take-suc-set es k e h

-- and the steps are the same
pub steps_filled : (es : List Entry) (k : ℕ) (e x : Entry) → e.step ≡ x.step → x ≡ get_or es k x → steps_of (set es k e) ≡ steps_of es
steps_filled [] k e x same is = refl
steps_filled (y ∷ es) zero e x same is = ap (λ (s : Step). s ∷ steps_of es) (same ∙ ap (λ (z : Entry). z.step) is)
steps_filled (y ∷ es) (suc k) e x same is = ap (λ (l : List Step). y.step ∷ l) (steps_filled es k e x same is)

-- two entries at one place are one
pub same_at : (es : List Entry) (k : ℕ) (d e : Entry) → k < length es → d ≡ get_or es k d → e ≡ get_or es k e → d ≡ e
same_at [] k d e h a b = absurd (omega arith)
same_at (x ∷ es) zero d e h a b = a ∙ sym b
same_at (x ∷ es) (suc k) d e h a b = same_at es k d e (omega arith) a b

-- past the last place all are answered
pub filled_all : (es : List Entry) (k : ℕ) → length es ≤ k → take k es ≡ es
filled_all [] zero h = refl
filled_all [] (suc k) h = refl
filled_all (e ∷ es) zero h = absurd (omega arith)
filled_all (e ∷ es) (suc k) h = ap (λ (l : List Entry). e ∷ l) (filled_all es k (omega arith))
