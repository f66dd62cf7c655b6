use Rattle.std.proofs.Common.{◌≡◌, Bool, true, false, ◌&&◌, List, [], ◌∷◌, map, refl, ◌∙◌, ap}
use Rattle.std.specs.Cmp.Lexicographic.{pointwise}
use Rattle.amqp_resource_record.specs.declared.step.Step.{Step}
use Rattle.amqp_resource_record.specs.declared.entry.Entry.{Entry}
use Rattle.amqp_resource_record.specs.Waiting.{awaiting}
use Rattle.amqp_resource_record.specs.contracts.step.StepPartialEq.TheImpl as step_same
use Rattle.amqp_resource_record.specs.contracts.entry.EntryPartialEq.TheImpl as entry_same
use Rattle.amqp_resource_record.proofs.steps.StepsPartialEq.eq.Goals as goal

abbrev same_step : Step → Step → Bool
same_step = step_same.eq-value.it

abbrev same_entry : Entry → Entry → Bool
same_entry = entry_same.eq-value.it

and_true : (b : Bool) → (b && true) ≡ b
and_true true = refl
and_true false = refl

waiting_one : (x y : Step) → same_entry (awaiting x) (awaiting y) ≡ same_step x y
waiting_one x y = and_true (same_step x y)

waiting_same : (xs ys : List Step) → pointwise same_entry (map awaiting xs) (map awaiting ys) ≡ pointwise same_step xs ys
waiting_same [] [] = refl
waiting_same [] (y ∷ ys) = refl
waiting_same (x ∷ xs) [] = refl
waiting_same (x ∷ xs) (y ∷ ys) = λ i. waiting_one x y i && waiting_same xs ys i

pub returns : goal.returns
returns c =
    let mine : c.as_slice.result.now ≡ map awaiting c.args.self.now = c.as_slice.ensures.value ∙ c.self.invariant ∙ ap (map awaiting) c.self.view_is in
    let theirs : c.as_slice-2.result.now ≡ map awaiting c.args.other.now = c.as_slice-2.ensures.value ∙ c.other.invariant ∙ ap (map awaiting) c.other.view_is in
    c.eq.ensures ∙ (λ i. pointwise same_entry (mine i) (theirs i)) ∙ waiting_same c.args.self.now c.args.other.now
