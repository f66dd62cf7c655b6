use Rattle.std.proofs.Common.{◌≡◌, List, [], ◌∷◌, ◌++◌, take, sym, ◌∙◌, ap}
use Rattle.std.proofs.lemmas.List.{map_more}
use Rattle.amqp_resource_record.specs.declared.step.Step.{Step}
use Rattle.amqp_resource_record.specs.declared.entry.Entry.{Entry}
use Rattle.amqp_resource_record.specs.Entries.{steps_of}
use Rattle.amqp_resource_record.proofs.steps.StepsTryClone.try_clone.Goals as goal

pub loop-entry-preserved : goal.loop-entry-preserved
loop-entry-preserved c =
    let all = c.as_slice-entry-items.result.now in
    let at = c.loop-entry.entry-index in
    let before : List Step = steps_of (take at all) in
    let copied : c.in_ok-try_clone.field-0 ≡ c.entry-item.result.step = c.in_ok-try_clone.ensures.copy in
    c.in_ok-append.ensures.ok
    ∙ ap (λ (steps : List Step). steps ++ c.in_ok-try_clone.field-0 ∷ []) c.loop-entry.invariant
    ∙ ap (λ (step : Step). before ++ step ∷ []) (copied ∙ ap (λ (e : Entry). e.step) c.entry-item.is)
    ∙ sym (map_more (λ (e : Entry). e.step) all at c.entry-item.result c.loop-entry-test.true)
