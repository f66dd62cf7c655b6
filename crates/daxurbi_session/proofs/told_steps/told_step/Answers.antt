use Rattle.std.proofs.Common.{List, Some, None, Ok, [], length, ap, subst, sym, ◌∙◌, ◌∷◌, ◌≡◌, ◌≤◌, ℕ}
use Rattle.amqp_below_layer.specs.declared.verdict.Verdict.TheVariants as verdicts
use Rattle.amqp_resource_held.specs.Held.{SameHeld, Stands}
use Rattle.amqp_resource_session.specs.Session.{SameSession, StopAfter, below_of, held_of, stop_of}
use Rattle.amqp_resource_session.specs.StepClauses.{StepRecords}
use Rattle.amqp_resource_session.specs.Steps.{IfRefused}
use Rattle.amqp_txn_types.specs.Counts.{Rose}
use Rattle.amqp_txn_types.specs.declared.performatives.Frame.{Frame}
use Rattle.daxurbi_layer.specs.Answering.{error_of, given_count, number_told, refusal_told, unless_take, verdict_told}
use Rattle.daxurbi_layer.specs.Handing.{ReviewsTold, told_of}
use Rattle.daxurbi_layer.specs.Refusing.{opened_list, refused_list}
use Rattle.daxurbi_layer.specs.declared.below_answer.BelowAnswer.{BelowAnswer}
use Rattle.daxurbi_layer.specs.declared.told_layer.ToldLayer.{ToldLayer}
use Rattle.daxurbi_session.specs.SlotIds.{ids_of}
use Rattle.daxurbi_session.specs.ToldSteps.{IfChecked, RecordSays, RefusedAsTold, answered_with}
use Rattle.daxurbi_session.proofs.AsTold.{same_told}
use Rattle.daxurbi_session.proofs.Checked.{work_passed, work_refused}
use Rattle.daxurbi_session.proofs.Told.{on_no_call, on_no_memory, on_veto, told_record, vetoed_as_told}
use Rattle.daxurbi_session.proofs.told_steps.told_step.Goals as goal

pub returns : goal.returns
returns c =
    let says = c.step-answer.ensures in
    let fresh = c.swap_below-idle.ensures in
    let used = c.swap_below-used.ensures in
    let mid = c.swap_below-idle.new.self in
    let after = c.step-answer.new.self in
    let new = c.swap_below-used.new.self in
    let step = c.args.step.now in
    let result = c.step-answer.result in
    let taken = c.into_taken.result in
    let layer = c.swap_below-used.result in
    let first_layer = c.new.result in
    let runs : stop_of mid ≡ None = fresh.stop ∙ c.requires.runs in
    let told : (below_of mid).answer ≡ c.args.told = ap (λ (l : ToldLayer). l.answer) fresh.below ∙ c.new.ensures.answer in
    let answered : layer.answer ≡ c.args.told =
    same_told layer.answer c.args.told (ap (λ (l : ToldLayer). number_told l.answer ∷ []) used.given ∙ ap (λ f. f.plan) says.fixed ∙ ap (λ (b : BelowAnswer). number_told b ∷ []) told) in
    let none : (told_of (below_of mid)).taken ≡ Some [] = ap (λ (l : ToldLayer). Some l.taken.items) fresh.below ∙ ap Some c.new.ensures.taken in
    let unopened : (told_of (below_of mid)).opened ≡ Some [] = ap (λ (l : ToldLayer). Some (opened_list l.opened)) fresh.below ∙ ap (λ o. Some (opened_list o)) c.new.ensures.opened in
    let unrefused : (told_of (below_of mid)).refused ≡ Some [] =
    ap (λ (l : ToldLayer). Some (refused_list (error_of (refusal_told l.answer)) l.refused)) fresh.below ∙ ap (λ o. Some (refused_list (error_of (refusal_told first_layer.answer)) o)) c.new.ensures.refused in
    let zero : (below_of mid).refusals ≡ 0 = ap (λ (l : ToldLayer). l.refusals) fresh.below ∙ c.new.ensures.refusals in
    let nothing : below_of after ≡ below_of mid → layer.taken.items ≡ [] =
    λ same. ap (λ (l : ToldLayer). l.taken.items) (used.given ∙ same ∙ fresh.below) ∙ c.new.ensures.taken in
    let first = says.runs runs in
    let rose : IfRefused result (λ error handed. 1 ≤ layer.refusals) =
    subst (λ (l : ToldLayer). IfRefused result (λ error handed. Rose 0 l.refusals)) (sym used.given)
    (subst (λ (n : ℕ). IfRefused result (λ error handed. Rose n (below_of after).refusals)) zero says.refusal_rose) in
    let refused = work_refused c.args.told step (below_of mid) (below_of after) result told (says.checked runs) in
    record {
      by_record = λ r stands. subst (λ (b : BelowAnswer). RecordSays r new step b taken result) answered
          (subst (λ (list : List (Frame × List Frame)). RecordSays r new step layer.answer list result) (sym c.into_taken.ensures)
          (told_record (told_of (below_of mid)) layer (ids_of c.args.ids.now) new r step result none unopened unrefused
          (on_no_call step result nothing says.untouched) first rose
          (subst (λ (b : BelowAnswer). IfRefused result (λ error handed. IfChecked (answered_with step) (RefusedAsTold b error))) (sym answered) refused)
          (subst (λ (l : ToldLayer). StepRecords (told_of (below_of mid)) (told_of l) (ids_of c.args.ids.now) (held_of new) r step result) (sym used.given)
          (subst (λ h. StepRecords (told_of (below_of mid)) (told_of (below_of after)) (ids_of c.args.ids.now) h r step result) (sym used.held)
          (says.by_record runs r (subst (λ h. Stands h r) (sym fresh.held) stands))))));
      runs = first;
      ended = says.ended runs;
      ended_only = says.ended_only;
      veto = on_veto result (λ (reviewed : ReviewsTold (below_of mid) (below_of after) _ (Ok verdicts.Veto)). ap verdict_told (sym told)
          ∙ vetoed_as_told (below_of mid) (ap (λ (l : ToldLayer). l.taken.items) fresh.below ∙ c.new.ensures.taken) reviewed.gives) says.reviewed;
      untaken = subst (λ (b : BelowAnswer). unless_take b (length taken) ≡ 0) answered (ap (λ list. unless_take layer.answer (length list)) c.into_taken.ensures ∙ layer.untaken);
      ungiven = ap given_count c.into_taken.ensures ∙ layer.ungiven;
      surely = says.surely;
      checked = work_passed c.args.told step (below_of mid) (below_of after) result told (says.checked runs);
      check_refused = refused;
      memory = on_no_memory result (λ (same : SameSession mid after). subst (λ h. SameHeld h (held_of new)) fresh.held (subst (λ h. SameHeld (held_of mid) h) (sym used.held) same.held)) says.same;
      stops = subst (λ stop. StopAfter result stop) (sym used.stop) (says.stops runs);
      below = used.below ∙ fresh.given;
      drew = says.drew;
      source = says.source;
    }
