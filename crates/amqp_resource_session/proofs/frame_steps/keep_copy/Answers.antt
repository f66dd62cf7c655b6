use Rattle.std.proofs.Common.{◌≡◌, cond, true, false, Bool, Result, Ok, ap, subst, ◌∙◌}
use Rattle.amqp_txn_types.specs.declared.items.NoMemory.{NoMemory}
use Rattle.amqp_txn_types.specs.Works.{frame_of_work}
use Rattle.amqp_resource_log.specs.Live.{kept, with_frame, Keeps}
use Rattle.amqp_txn_types.specs.Ids.{same_id}
use Rattle.amqp_resource_session.proofs.frame_steps.keep_copy.Goals as goal

pub returns-in-Ok-true-clause-kept : goal.returns-in-Ok-true-clause-kept
returns-in-Ok-true-clause-kept c =
    let old = c.args.work.now in
    let is : c.keep.result ≡ Ok true = cc (c.in-Ok-true.is, c.in-Ok-true.field-0-test) in
    let keeps = subst (λ (r : Result Bool NoMemory). Keeps old c.keep.new.self c.args.id (frame_of_work c.in_ok-copy.copy) r) is c.keep.ensures.kept in
    record {
      was_live = keeps.0;
      answered = c.in_ok-given.ensures;
      live = λ t. keeps.2 t ∙ ap (λ f. cond (same_id t c.args.id) (with_frame (kept old t) f) (kept old t)) c.in_ok-copy.ensures;
    }

pub returns-in-Ok-false-clause-kept : goal.returns-in-Ok-false-clause-kept
returns-in-Ok-false-clause-kept c =
    let is : c.keep.result ≡ Ok false = cc (c.in-Ok-false.is, c.in-Ok-false.field-0-test) in
    subst (λ (r : Result Bool NoMemory). Keeps c.args.work.now c.keep.new.self c.args.id (frame_of_work c.in_ok-copy.copy) r) is c.keep.ensures.kept
