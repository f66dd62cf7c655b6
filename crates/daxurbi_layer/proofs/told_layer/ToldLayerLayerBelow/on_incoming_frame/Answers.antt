use Rattle.std.proofs.Common.{List, Option, Some, ap, arith, is_some, refl, subst, sym, ◌+◌, ◌≡◌, ◌≤◌}
use Rattle.std.specs.Prelude.{OnErr, vec_len}
use Rattle.amqp_txn_types.specs.Counts.{one_more}
use Rattle.daxurbi_layer.specs.Refusing.{refused_list}
use Rattle.amqp_below_layer.specs.Told.{refused_after, taken_after}
use Rattle.amqp_txn_types.specs.declared.performatives.Frame.{Frame}
use Rattle.daxurbi_layer.specs.Answering.{error_of, refusal_told, unlisted}
use Rattle.daxurbi_layer.specs.Handing.{FrameAnswer}
use Rattle.daxurbi_layer.specs.declared.refused.Refused.{Refused}
use Rattle.daxurbi_layer.specs.declared.refused.Refused.TheVariants as calls
use Rattle.daxurbi_layer.proofs.Listing.{frame_answer, hindered, no_ok, refused_lists, refused_told}
use Rattle.daxurbi_layer.proofs.told_layer.ToldLayerLayerBelow.on_incoming_frame.Goals as goal

pub invariant_of-self-2-clause-listed : goal.invariant_of-self-2-clause-listed
invariant_of-self-2-clause-listed c =
    let old = c.args.self.now in let error = c.in-Some.error in let count = c.refuse.new.refusals in
    let why = hindered c.refusal-told.result old.answer old.refusals old.taken c.hindrance.new.taken error c.refusal-told.ensures c.in-Some.ensures.answer in
    subst (λ (list : List (Frame × List Frame)). unlisted old.answer list (is_some c.list_refusal-error.new.slot) count ≡ 0) (sym c.hindrance.ensures.items)
    (subst (λ (slot : Option Refused). unlisted old.answer old.taken.items (is_some slot) count ≡ 0) (sym c.list_refusal-error.ensures.slot)
    (refused_lists old.answer old.taken.items old.refused (calls.Frame c.of.result) error old.refusals count old.listed why))

pub returns-clause-told : goal.returns-clause-told
returns-clause-told c =
    let old = c.args.self.now in let error = c.in-Some.error in let answer = c.list_refusal-error.result in let is = c.refuse.ensures.answer in
    let slot = c.list_refusal-error.new.slot in let own = error_of (refusal_told old.answer) in let list = c.hindrance.new.taken.items in let count = c.refuse.new.refusals in
    let why = hindered c.refusal-told.result old.answer old.refusals old.taken c.hindrance.new.taken error c.refusal-told.ensures c.in-Some.ensures.answer in
    let rose : one_more old.refusals ≤ count = omega (arith, c.refuse.ensures.counted) in record {
      taken = subst (λ r. Some list ≡ taken_after (Some old.taken.items) c.args.frame r) (sym is) (ap Some c.hindrance.ensures.items);
      opened = refl;
      refused = subst (λ r. Some (refused_list own slot) ≡ refused_after (Some (refused_list own old.refused)) c.args.frame r) (sym is)
          (refused_told old.answer old.taken.items old.refused slot (calls.Frame c.of.result) c.args.frame error answer old.refusals why c.list_refusal-error.ensures.slot c.list_refusal-error.ensures.answer c.of.ensures);
      reviews = refl;
      fixed = refl;
      later = c.refuse.ensures.later;
      cause = subst (λ r. OnErr r (one_more old.refusals ≤ count)) (sym is) rose;
    }

pub returns-clause-gives : goal.returns-clause-gives
returns-clause-gives c =
    let old = c.args.self.now in let answer = c.list_refusal-error.result in let is = c.refuse.ensures.answer in record {
      answer = refl;
      gives = subst (λ r. FrameAnswer (refusal_told old.answer) old r) (sym is)
          (frame_answer c.refusal-told.result old c.hindrance.new.taken c.in-Some.error answer c.refusal-told.ensures c.in-Some.ensures.answer c.list_refusal-error.ensures.answer);
      longer = no_ok (vec_len c.hindrance.new.taken ≡ vec_len old.taken + 1) c.refuse.result answer is;
      capacity = c.hindrance.ensures.capacity;
      fine = no_ok (c.refuse.new.refusals ≡ old.refusals) c.refuse.result answer is;
    }
