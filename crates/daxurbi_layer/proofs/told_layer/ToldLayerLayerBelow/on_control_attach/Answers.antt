use Rattle.std.proofs.Common.{Some, ap, arith, refl, subst, sym, ◌∙◌, ◌≡◌, ◌≤◌}
use Rattle.std.specs.Prelude.{OnErr}
use Rattle.amqp_txn_types.specs.Counts.{one_more}
use Rattle.daxurbi_layer.specs.Answering.{error_of, refusal_told}
use Rattle.daxurbi_layer.specs.Refusing.{opened_list, refused_list}
use Rattle.amqp_below_layer.specs.Told.{opened_after, refused_after}
use Rattle.amqp_txn_types.specs.declared.performatives.Frame.TheVariants as frames
use Rattle.daxurbi_layer.specs.declared.refused.Refused.TheVariants as calls
use Rattle.daxurbi_layer.proofs.Listing.{Cause, as_told, full, refused_told}
use Rattle.daxurbi_layer.proofs.told_layer.ToldLayerLayerBelow.on_control_attach.Goals as goal
use Rattle.daxurbi_layer.proofs.told_layer.ToldLayerLayerBelow.on_control_attach.Goals.{in-Some, in-None}

pub returns-clause-told : goal.returns-clause-told
returns-clause-told c =
    let old = c.args.self.now in let error = c.match-refusal.error in
    let why : Cause old.answer old.taken.items old.refusals error = elim c.match-refusal.branch [
      | in-Some w ↦ as_told (sym c.refusal.ensures ∙ w.in-Some.is ∙ ap Some (sym w.error-is))
      | in-None w ↦ full (sym c.refusal.ensures ∙ w.in-None.is) (w.error-is ∙ w.no_room-error.ensures)
    ] in
    let answer = c.list_refusal-error.result in let is = c.refuse.ensures.answer in let slot = c.list_refusal-error.new.slot in let own = error_of (refusal_told old.answer) in
    let count = c.refuse.new.refusals in let list = opened_list old.opened in
    let rose : one_more old.refusals ≤ count = omega (arith, c.refuse.ensures.counted) in record {
      taken = refl;
      opened = subst (λ r. Some list ≡ opened_after (Some list) c.args.attach.now r) (sym is) refl;
      refused = subst (λ r. Some (refused_list own slot) ≡ refused_after (Some (refused_list own old.refused)) (frames.Attach c.args.attach.now) r) (sym is)
          (refused_told old.answer old.taken.items old.refused slot (calls.Attach c.of-2.result) (frames.Attach c.args.attach.now) error answer old.refusals
          why c.list_refusal-error.ensures.slot c.list_refusal-error.ensures.answer (ap (λ a. frames.Attach a) c.of-2.ensures));
      reviews = refl;
      fixed = refl;
      later = c.refuse.ensures.later;
      cause = subst (λ r. OnErr r (one_more old.refusals ≤ count)) (sym is) rose;
    }
