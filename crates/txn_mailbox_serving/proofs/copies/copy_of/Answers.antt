use Rattle.std.proofs.Common.{rules, ap, sym, ◌∙◌, ◌++◌, ◌∷◌, []}
use Rattle.txn_mailbox_serving.proofs.Coming.{take-next}
use Rattle.txn_mailbox_serving.proofs.copies.copy_of.Goals as goal

pub loop-place-preserved : goal.loop-place-preserved
loop-place-preserved c =
    let step = c.in-Some.step.now in
    let at = take-next c.args.steps.now c.loop-place.place step (sym c.in-Some.ensures) in
    record {
      copied = c.push_reserved.ensures.items ∙ ap (λ x. c.loop-place.copy.items ++ x ∷ []) c.in_ok-try_clone.ensures.copy ∙ ap (λ l. l ++ step ∷ []) c.loop-place.invariant.copied ∙ sym at;
      room = search rules;
    }
