-- A step over a layer that is told its answer, from what a step says.
use Rattle.std.proofs.Common.{Bool, List, Some, [], ap, false, length, refl, subst, sym, take, true, ℕ, ◌∙◌, ◌≡◌, ◌≤◌, Result, Ok, Err, arith}
use Rattle.std.specs.Prelude.{MatchBool, IfErr}
use Rattle.std.specs.List.{zip}
use Rattle.std.proofs.lemmas.Option.{same_Some}
use Rattle.std.proofs.lemmas.Slice.Zip.{firsts-zip}
use Rattle.amqp_below_ids.specs.Drawn.{DrawnIds}
use Rattle.amqp_below_layer.specs.Told.{Told}
use Rattle.amqp_resource_record.specs.Hands.{hands}
use Rattle.amqp_resource_record.specs.Work.{given_by, handed_by}
use Rattle.amqp_resource_record.specs.declared.entry.Entry.{Entry}
use Rattle.amqp_resource_record.specs.declared.reply.Reply.{Reply}
use Rattle.amqp_resource_record.specs.declared.reply.Reply.TheVariants as replies
use Rattle.amqp_txn_types.specs.declared.small.TransactionError.TheVariants as transaction_errors
use Rattle.amqp_below_layer.specs.declared.refusal.Refusal.{Refusal}
use Rattle.amqp_below_layer.specs.declared.verdict.Verdict.TheVariants as verdicts
use Rattle.amqp_resource_held.specs.Views.{view_of_record}
use Rattle.amqp_resource_record.specs.Opened.{opened_by, refused_by}
use Rattle.daxurbi_layer.specs.Answering.{error_of, refusal_told, verdict_told}
use Rattle.daxurbi_layer.specs.Handing.{ReviewAnswer, told_of}
use Rattle.daxurbi_layer.specs.Refusing.{opened_list, refused_list}
use Rattle.amqp_resource_record.specs.declared.step.Step.{Step}
use Rattle.amqp_resource_record.specs.declared.stop.StepError.{StepError}
use Rattle.amqp_resource_record.specs.declared.stop.StepError.TheVariants as errors
use Rattle.amqp_resource_session.specs.Session.{held_of}
use Rattle.amqp_resource_session.specs.StepClauses.{StepRecords}
use Rattle.amqp_resource_session.specs.Steps.{IfRefused, IfVeto, IsFirstStop, OnNoCall, OnNoMemory, OnVeto, TookFirst, TookHands, calls_nothing, is_unknown}
use Rattle.amqp_resource_session.specs.declared.session.TxnSession.{TxnSession}
use Rattle.amqp_txn_types.specs.Counts.{Rose}
use Rattle.amqp_txn_types.specs.Growing.{grown}
use Rattle.amqp_txn_types.specs.declared.id.TransactionId.{TransactionId}
use Rattle.amqp_txn_types.specs.declared.performatives.Frame.{Frame}
use Rattle.daxurbi_layer.specs.declared.told_layer.ToldLayer.{ToldLayer}
use Rattle.daxurbi_session.specs.ToldSteps.{IfChecked, RecordSays, RefusedAsTold, TookOnly, answered_with, frames_taken}
use Rattle.daxurbi_session.proofs.AsTold.{refusal_as_told, reply_told}

-- ---- what was taken

-- what a layer took that had taken nothing
took_all : (old new : Told) (entries : List Entry) (step : Step) (reply : Reply) (taken : List (Frame × List Frame))
    → old.taken ≡ Some [] → new.taken ≡ Some taken → TookHands old new entries step reply
    → taken ≡ zip (handed_by entries step reply) (given_by step reply)
took_all old new entries step reply taken none some took =
    same_Some taken (zip (handed_by entries step reply) (given_by step reply))
    (sym some ∙ took ∙ ap (λ o. grown o (zip (handed_by entries step reply) (given_by step reply))) none)

-- the first of it
took_first : (old new : Told) (entries : List Entry) (step : Step) (handed : ℕ) (taken : List (Frame × List Frame))
    → old.taken ≡ Some [] → new.taken ≡ Some taken → TookFirst old new (hands entries step) handed → TookOnly entries step taken handed
took_first old new entries step handed taken none some (within, (given, long, same)) =
    let frames : List Frame = take handed (hands entries step) in
    let is : Some taken ≡ Some (zip frames given) =
    sym some ∙ same ∙ ap (λ o. grown o (zip frames given)) none in
    (within, ap frames_taken (same_Some taken (zip frames given) is) ∙ firsts-zip frames given long)

-- none of it
took_none : (entries : List Entry) (step : Step) (handed : ℕ) (taken : List (Frame × List Frame)) → handed ≡ 0 → taken ≡ [] → TookOnly entries step taken handed
took_none entries step handed taken zero nothing =
    subst (λ n. TookOnly entries step taken n) (sym zero) (omega arith, ap frames_taken nothing)

-- a fault
took_fault : (b : Bool) (old new : Told) (entries : List Entry) (step : Step) (handed : ℕ) (taken : List (Frame × List Frame)) (P : Type 0)
    → old.taken ≡ Some [] → new.taken ≡ Some taken → MatchBool b (P × (handed ≡ 0)) (Unit {0}) → MatchBool b (Unit {0}) (TookFirst old new (hands entries step) handed)
    → MatchBool b (taken ≡ []) (Unit {0}) → TookOnly entries step taken handed
took_fault true old new entries step handed taken P none some dead first nothing = took_none entries step handed taken dead.1 nothing
took_fault false old new entries step handed taken P none some dead first nothing = took_first old new entries step handed taken none some first

only_dead : (b : Bool) (P : Type 0) (handed : ℕ) → MatchBool b (P × (handed ≡ 0)) (Unit {0}) → MatchBool b P (Unit {0})
only_dead true P handed dead = dead.0
only_dead false P handed dead = tt

-- ---- by a record

pub told_record : (old : Told) (layer : ToldLayer) (ids : ℕ → TransactionId) (new : TxnSession ToldLayer) (entries : List Entry) (step : Step)
    (result : Result (DrawnIds × Reply) StepError)
    → old.taken ≡ Some [] → old.opened ≡ Some [] → old.refused ≡ Some [] → OnNoCall step result (layer.taken.items ≡ []) → IfErr result IsFirstStop
    → IfRefused result (λ error handed. 1 ≤ layer.refusals) → IfRefused result (λ error handed. IfChecked (answered_with step) (RefusedAsTold layer.answer error))
    → StepRecords old (told_of layer) ids (held_of new) entries step result → RecordSays entries new step layer.answer layer.taken.items result
told_record old layer ids new entries step (Ok out) none unopened unrefused nothing runs rose checked said =
    let listing : List Refusal = refused_list (error_of (refusal_told layer.answer)) layer.refused in
    let handed : layer.taken.items ≡ zip (handed_by entries step out.1) (given_by step out.1) = took_all old (told_of layer) entries step out.1 layer.taken.items none refl said.taken in
    let opens : Some (opened_list layer.opened) ≡ Some (opened_by step out.1) = said.opened ∙ ap (λ o. grown o (opened_by step out.1)) unopened in
    let refuses : Some listing ≡ Some (refused_by step out.1) = said.refused ∙ ap (λ o. grown o (refused_by step out.1)) unrefused in
    record {
      answer = said.answer;
      stands = said.stands;
      handed = handed;
      first = tt;
      unknown = said.unknown;
      unknown_only = tt;
      refusal = tt;
      replies = reply_told (Rose old.refusals layer.refusals) layer.answer layer.opened layer.taken.items layer.refused layer.refusals entries step out.0.ids out.1
          layer.unopened layer.listed said.answer handed said.attach_refused (same_Some (opened_list layer.opened) (opened_by step out.1) opens) (same_Some listing (refused_by step out.1) refuses);
      refused = tt;
      memory = tt;
    }
told_record old layer ids new entries step (Err (errors.Fault error handed)) none unopened unrefused nothing runs rose checked said =
    let took : TookOnly entries step layer.taken.items handed = took_fault (is_unknown error) old (told_of layer) entries step handed layer.taken.items _ none refl said.unknown_only said.handed nothing in
    record {
      answer = tt;
      stands = tt;
      handed = tt;
      first = took;
      unknown = said.unknown;
      unknown_only = only_dead (is_unknown error) _ handed said.unknown_only;
      refusal = said.refusal;
      replies = tt;
      refused = refusal_as_told (is_unknown error) layer.answer layer.taken.items layer.refused layer.refusals (view_of_record entries) entries step error handed old (told_of layer)
          layer.listed layer.untaken took unrefused refl rose said.refusal checked said.refused_last;
      memory = tt;
    }
told_record old layer ids new entries step (Err (errors.Ended reason)) none unopened unrefused nothing runs rose checked said = record {
  answer = tt;
  stands = tt;
  handed = tt;
  first = took_none entries step 0 layer.taken.items refl nothing;
  unknown = said.unknown;
  unknown_only = tt;
  refusal = tt;
  replies = tt;
  refused = tt;
  memory = tt;
}
told_record old layer ids new entries step (Err (errors.Stopped code)) none unopened unrefused nothing runs rose checked said = absurd runs
told_record old layer ids new entries step (Err errors.NoMemory) none unopened unrefused nothing runs rose checked said = record {
  answer = tt;
  stands = tt;
  handed = tt;
  first = tt;
  unknown = said.unknown;
  unknown_only = tt;
  refusal = tt;
  replies = tt;
  refused = tt;
  memory = said.memory.0;
}

-- ---- what follows from one answer to another

match_bool : (b : Bool) {P Q : Type 0} → (P → Q) → MatchBool b P (Unit {0}) → MatchBool b Q (Unit {0})
match_bool true f p = f p
match_bool false f p = tt

pub on_no_call : (step : Step) (result : Result (DrawnIds × Reply) StepError) {P Q : Type 0} → (P → Q) → OnNoCall step result P → OnNoCall step result Q
on_no_call step (Ok out) f p = match_bool (calls_nothing step out.1) f p
on_no_call step (Err (errors.Fault error handed)) f p = match_bool (is_unknown error) f p
on_no_call step (Err (errors.Ended reason)) f p = f p
on_no_call step (Err (errors.Stopped code)) f p = f p
on_no_call step (Err errors.NoMemory) f p = f p

pub on_no_memory : (result : Result (DrawnIds × Reply) StepError) {P Q : Type 0} → (P → Q) → OnNoMemory result P → OnNoMemory result Q
on_no_memory (Ok out) f p = tt
on_no_memory (Err (errors.Fault error handed)) f p = tt
on_no_memory (Err (errors.Ended reason)) f p = tt
on_no_memory (Err (errors.Stopped code)) f p = tt
on_no_memory (Err errors.NoMemory) f p = f p

if_veto : (reply : Reply) {P Q : Type 0} → (P → Q) → IfVeto reply P → IfVeto reply Q
if_veto (replies.Rejected transaction_errors.Rollback text) f p = f p
if_veto (replies.Rejected transaction_errors.UnknownId text) f p = tt
if_veto (replies.Rejected transaction_errors.Timeout text) f p = tt
if_veto (replies.Frames answers) f p = tt
if_veto (replies.Attached link frames) f p = tt
if_veto (replies.AttachRefused error) f p = tt
if_veto replies.LinkEnded f p = tt
if_veto replies.NoLink f p = tt
if_veto (replies.LinkClosed error) f p = tt
if_veto (replies.Declared id) f p = tt
if_veto (replies.Accepted echoes) f p = tt

pub on_veto : (result : Result (DrawnIds × Reply) StepError) {P Q : Type 0} → (P → Q) → OnVeto result P → OnVeto result Q
on_veto (Ok out) f p = if_veto out.1 f p
on_veto (Err error) f p = tt

-- a layer that took nothing vetoes what it was told to
pub vetoed_as_told : (layer : ToldLayer) → layer.taken.items ≡ [] → ReviewAnswer layer (Ok verdicts.Veto) → verdict_told layer.answer ≡ Ok verdicts.Veto
vetoed_as_told layer none gives = gives.0 (ap (λ (l : List (Frame × List Frame)). length l) none)
