-- The parts of an input, read line by line.
use Rattle.std.proofs.Common.{◌≡◌, ℕ, ◌+◌, ◌==◌, Bool, true, false, cond, Option, Some, None, Result, Ok, Err, List, [], ◌∷◌, ◌++◌, length, refl, sym, ◌∙◌, ap, append_assoc, append-nil, arith}
use Rattle.std.specs.Prelude.{codes}
use Rattle.std.specs.Str.{bytes_eq}
use Rattle.std.proofs.lemmas.Bool.Decides.{nat_tests}
use Rattle.std.proofs.lemmas.List.{length-append}
use Rattle.amqp_resource_record.specs.declared.step.Step.{Step}
use Rattle.txn_program_lines.specs.Cutting.{lines_of}
use Rattle.txn_program_lines.specs.Lines.{step_of_line}
use Rattle.txn_program_lines.specs.Numbered.{item_appended, with_item}
use Rattle.txn_audit.specs.AuditInput.{Parts, parts_from, step_then}

-- the steps that were read, before the parts that are still read
abbrev pub after_steps : List Step → Result Parts ℕ → Result Parts ℕ
after_steps steps (Ok more) = Ok (steps ++ more.0, more.1)
after_steps steps (Err bad) = Err bad

-- none were read
pub parts-none : (steps : List Step) (parts : Result Parts ℕ) → steps ≡ [] → after_steps steps parts ≡ parts
parts-none steps (Ok more) e = ap (λ (front : List Step). Ok (front ++ more.0, more.1)) e
parts-none steps (Err bad) e = refl

-- one step more was read
regroup : (front : List Step) (step : Step) (n : ℕ) (parts : Result Parts ℕ) → after_steps (front ++ step ∷ []) parts ≡ after_steps front (step_then (Some step) n parts)
regroup front step n (Ok more) = ap (λ (all : List Step). Ok (all, more.1)) (append_assoc front (step ∷ []) more.0)
regroup front step n (Err bad) = refl

module _ (steps : List Step) (number : ℕ) (rest line after : List ℕ) (total : Result Parts ℕ) (lines : lines_of rest ≡ line ∷ lines_of after) (so_far : after_steps steps (parts_from number (lines_of rest)) ≡ total) where
  -- a line by whether it is `report`
  one_line : (b : Bool) → bytes_eq line (codes "report") ≡ b → parts_from number (lines_of rest) ≡ cond b (Ok ([], Some (lines_of after))) (step_then (step_of_line line) number (parts_from (number + 1) (lines_of after)))
  unfolding parts_from
  one_line b e = ap (parts_from number) lines ∙ ap (λ c. cond c (Ok ([], Some (lines_of after))) (step_then (step_of_line line) number (parts_from (number + 1) (lines_of after)))) e

  pub parts-report : bytes_eq line (codes "report") ≡ true → total ≡ Ok (steps, Some (lines_of after))
  parts-report e = sym so_far ∙ ap (after_steps steps) (one_line true e) ∙ ap (λ (front : List Step). Ok (front, Some (lines_of after))) (append-nil steps)

  pub parts-more : (new : List Step) → bytes_eq line (codes "report") ≡ false → with_item step_of_line steps line ≡ Some new → after_steps new (parts_from (number + 1) (lines_of after)) ≡ total
  parts-more new e made = by_step (step_of_line line) refl made
    where
      by_step : (o : Option Step) → step_of_line line ≡ o → item_appended steps o ≡ Some new → after_steps new (parts_from (number + 1) (lines_of after)) ≡ total
      by_step None f m = cc m
      by_step (Some step) f m =
          let grown : steps ++ step ∷ [] ≡ new = cc m in
          sym (ap (λ (front : List Step). after_steps front (parts_from (number + 1) (lines_of after))) grown)
          ∙ regroup steps step number (parts_from (number + 1) (lines_of after))
          ∙ sym (ap (λ (o : Option Step). after_steps steps (step_then o number (parts_from (number + 1) (lines_of after)))) f)
          ∙ sym (ap (after_steps steps) (one_line false e))
          ∙ so_far

  pub parts-bad : bytes_eq line (codes "report") ≡ false → with_item step_of_line steps line ≡ None → total ≡ Err number
  parts-bad e made = by_step (step_of_line line) refl made
    where
      by_step : (o : Option Step) → step_of_line line ≡ o → item_appended steps o ≡ None → total ≡ Err number
      by_step None f m = sym so_far ∙ ap (after_steps steps) (one_line false e) ∙ ap (λ (o : Option Step). after_steps steps (step_then o number (parts_from (number + 1) (lines_of after)))) f
      by_step (Some step) f m = cc m

-- a step more was read
pub parts-count : (steps new : List Step) (line : List ℕ) → with_item step_of_line steps line ≡ Some new → length new ≡ length steps + 1
parts-count steps new line made = by_step (step_of_line line) made
  where
    by_step : (o : Option Step) → item_appended steps o ≡ Some new → length new ≡ length steps + 1
    by_step None m = cc m
    by_step (Some step) m = let grown : steps ++ step ∷ [] ≡ new = cc m in sym (ap (λ (xs : List Step). length xs) grown) ∙ length-append steps (step ∷ [])

-- no octet is left
is_nil : (rest : List ℕ) → (length rest == 0) ≡ true → rest ≡ []
is_nil [] h = refl
is_nil (b ∷ bs) h = absurd (grind (arith, nat_tests))

pub parts-end : (steps : List Step) (number : ℕ) (rest : List ℕ) (total : Result Parts ℕ) → (length rest == 0) ≡ true → after_steps steps (parts_from number (lines_of rest)) ≡ total → total ≡ Ok (steps, None)
unfolding parts_from
parts-end steps number rest total none so_far = sym so_far ∙ ap (λ octets. after_steps steps (parts_from number (lines_of octets))) (is_nil rest none) ∙ ap (λ (front : List Step). Ok (front, None)) (append-nil steps)
