-- What a step leaves, by whether it makes a call below.
use Rattle.std.proofs.Common.{◌≡◌, ◌≤◌, ℕ, Bool, true, false, Option, Some, None, Result, Ok, Err, List, [], ◌∷◌, refl, sym, ◌∙◌, ap, arith, subst}
use Rattle.std.specs.Prelude.{⊤, is_some, MatchBool, IfOk}
use Rattle.amqp_below_layer.specs.declared.answers.Answers.{Answers}
use Rattle.amqp_below_sessions.specs.declared.transacting.CommitFault.{CommitFault}
use Rattle.amqp_txn_codec.specs.declared.message.Discharge.{Discharge}
use Rattle.amqp_below_ids.specs.Drawn.{DrawnIds}
use Rattle.amqp_below_ids.specs.Ids.{Drew}
use Rattle.amqp_txn_types.specs.declared.delivery.Error.{Error}
use Rattle.amqp_txn_types.specs.declared.performatives.Frame.{Frame}
use Rattle.amqp_resource_held.specs.declared.held.Held.{Held}
use Rattle.amqp_txn_types.specs.declared.items.NoMemory.{NoMemory}
use Rattle.amqp_resource_record.specs.declared.reply.Reply.{Reply}
use Rattle.amqp_txn_types.specs.Counts.{Rose}
use Rattle.amqp_below_layer.specs.declared.inner_error.SessionInnerError.{SessionInnerError}
use Rattle.amqp_resource_record.specs.declared.step.Step.{Step}
use Rattle.amqp_resource_record.specs.declared.stop.StepError.{StepError}
use Rattle.amqp_below_layer.specs.Told.{Told, open_told}
use Rattle.amqp_txn_types.specs.declared.id.TransactionId.{TransactionId}
use Rattle.amqp_below_layer.specs.declared.verdict.Verdict.{Verdict}
use Rattle.amqp_txn_types.specs.Frames.{is_plain_frame, txn}
use Rattle.amqp_txn_codec.specs.Discharges.{is_rollback}
use Rattle.amqp_txn_codec.specs.Reading.{message_of}
use Rattle.amqp_txn_types.specs.declared.small.TransactionError.TheVariants as transaction_errors
use Rattle.amqp_txn_codec.specs.declared.message.ControlMessageBody.TheVariants as messages
use Rattle.amqp_below_layer.specs.declared.verdict.Verdict.TheVariants as verdicts
use Rattle.amqp_txn_types.specs.declared.performatives.Disposition.{Disposition}
use Rattle.amqp_txn_types.specs.declared.performatives.Flow.{Flow}
use Rattle.amqp_below_layer.specs.OneFrame.{ChecksAll, ChecksGiven}
use Rattle.amqp_txn_types.specs.Presumptive.{answered_under}
use Rattle.amqp_resource_record.proofs.Whole.{plain_none}
use Rattle.amqp_below_ids.proofs.Draws.{Drew-none}
use Rattle.amqp_resource_record.specs.declared.step.Step.TheVariants as steps
use Rattle.amqp_resource_record.specs.declared.reply.Reply.TheVariants as replies
use Rattle.amqp_resource_record.specs.declared.stop.StepError.TheVariants as errors
use Rattle.amqp_below_sessions.specs.declared.transacting.CommitFault.TheVariants as commit_faults
use Rattle.amqp_resource_held.specs.Held.{SameHeld}
use Rattle.amqp_resource_session.specs.Committing.{HandsSurely, OnNoEchoes}
use Rattle.amqp_resource_session.specs.Transacting.{step_error_of}
use Rattle.amqp_resource_held.specs.Changes.{Fits}
use Rattle.amqp_resource_session.specs.Keeping.{ErrorKeeps, Keeps}
use Rattle.amqp_resource_session.specs.Leaving.{LeavesHere, StepDraws, StepLeaves}
use Rattle.amqp_resource_session.specs.Steps.{ChecksAnswer, ChecksUnder, ChecksWork, IfRefused, IfVeto, IsPost, OnNoCall, OnNoMemory, OnVeto, RepliesToNoFrame, StepCause, StopsSurely, calls_nothing, fault_of, has_error, is_unanswered, is_unknown, local_end, nothing_drawn, remote_end, rolls_back_by, step_hands}
use Rattle.amqp_resource_held.specs.Views.{view_of_held}
use Rattle.amqp_resource_session.proofs.Moved.{keeps_moved, left_moved, same_moved}
use Rattle.amqp_resource_session.proofs.Parts.{on_false}

-- ---- calls

on_either : (P : Type 0) (b : Bool) → P → MatchBool b P ⊤
on_either P true x = x
on_either P false x = tt

pub no_call_holds : (s : Step) (result : Result (DrawnIds × Reply) StepError) (P : Type 0) → P → OnNoCall s result P
no_call_holds s (Ok out) P x = on_either P (calls_nothing s out.1) x
no_call_holds s (Err (errors.Fault error handed)) P x = on_either P (is_unknown error) x
no_call_holds s (Err (errors.Ended reason)) P x = x
no_call_holds s (Err (errors.Stopped code)) P x = x
no_call_holds s (Err errors.NoMemory) P x = x

-- an accepted commit may have called, but for one without echoes
pub commit_calls : (k : ℕ) (payload : List ℕ) (discharge : Discharge) (d : DrawnIds) (echoes : List Answers) (P : Type 0) → message_of payload ≡ Some (messages.Discharge discharge) → is_rollback discharge.fail ≡ false → OnNoEchoes (Ok (Ok echoes)) P → OnNoCall (steps.Control k payload) (Ok (d, replies.Accepted echoes)) P
commit_calls k payload discharge d [] P m b idle = idle
commit_calls k payload discharge d (echo ∷ echoes) P m b idle = subst (λ (c : Bool). MatchBool c P ⊤) (sym (ap rolls_back_by m ∙ b)) tt

-- of a plain frame nothing is said
pub plain_calls : (frame : Frame) (d : DrawnIds) (a : Answers) (P : Type 0) → is_plain_frame frame ≡ true → OnNoCall (steps.Frame frame) (Ok (d, replies.Frames a)) P
plain_calls frame d a P plain = by_given a.given
  where
    by_given : (given : List Frame) → MatchBool (is_unanswered (steps.Frame frame) given) P ⊤
    by_given [] = subst (λ (o : Option TransactionId). MatchBool (is_some o) P ⊤) (sym (plain_none frame plain)) tt
    by_given (f ∷ given) = tt

-- work that is kept calls the checks of its answer alone
pub post_calls : {S : Type 0} (gives : S → S → Disposition → Result Unit SessionInnerError → Type 0) (old now : S) (frame : Frame) (d : DrawnIds) (given : List Frame) (window : Option Flow) → ChecksAll gives old given now → OnNoCall (steps.Frame frame) (Ok (d, replies.Frames (record { given = given; window = window }))) (now ≡ old)
post_calls gives old now frame d [] window checks = on_either (now ≡ old) (is_some (txn frame)) checks
post_calls gives old now frame d (f ∷ given) window checks = tt

-- ---- vetoes

if_veto : (P Q : Type 0) (reply : Reply) → (P → Q) → IfVeto reply P → IfVeto reply Q
if_veto P Q (replies.Rejected transaction_errors.Rollback text) f x = f x
if_veto P Q _ f x = tt

-- what makes no call below is no veto
no_veto : (s : Step) (result : Result (DrawnIds × Reply) StepError) (P : Type 0) → StepCause open_told open_told s result → OnVeto result P
no_veto s (Ok out) P c = if_veto (Rose 0 0) P out.1 (λ x. absurd (omega (arith, x))) c.1
no_veto s (Err error) P c = tt

-- ---- ends

pub local_error : (o : Option Error) → is_some o ≡ has_error (local_end o)
local_error None = refl
local_error (Some error) = refl

pub remote_error : (o : Option Error) → is_some o ≡ has_error (remote_end o)
remote_error None = refl
remote_error (Some error) = refl

-- ---- over a sure layer

-- of a step that isn't a control message nothing is said
pub surely_other : (result : Result (DrawnIds × Reply) StepError) → IfRefused result (λ error handed. ⊤)
surely_other (Ok out) = tt
surely_other (Err (errors.Fault error handed)) = by_known (is_unknown error)
  where
    by_known : (b : Bool) → MatchBool b ⊤ ⊤
    by_known true = tt
    by_known false = tt
surely_other (Err (errors.Ended reason)) = tt
surely_other (Err (errors.Stopped code)) = tt
surely_other (Err errors.NoMemory) = tt

-- what makes no call below is no refusal there
no_refusal : (s : Step) (result : Result (DrawnIds × Reply) StepError) → StepCause open_told open_told s result → IfRefused result (λ error handed. ⊥)
no_refusal s (Ok out) c = tt
no_refusal s (Err (errors.Fault error handed)) c = by_known (is_unknown error) c
  where
    by_known : (b : Bool) → MatchBool b (IsPost s × (handed ≡ 0)) (Rose 0 0) → MatchBool b ⊤ ⊥
    by_known true x = tt
    by_known false x = omega (arith, x)
no_refusal s (Err (errors.Ended reason)) c = tt
no_refusal s (Err (errors.Stopped code)) c = tt
no_refusal s (Err errors.NoMemory) c = tt

if_refused : (P Q : SessionInnerError → ℕ → Type 0) (result : Result (DrawnIds × Reply) StepError) → ((error : SessionInnerError) (handed : ℕ) → P error handed → Q error handed) → IfRefused result P → IfRefused result Q
if_refused P Q (Ok out) f x = tt
if_refused P Q (Err (errors.Fault error handed)) f x = on_false _ (is_unknown error) (f error handed) x
if_refused P Q (Err (errors.Ended reason)) f x = tt
if_refused P Q (Err (errors.Stopped code)) f x = tt
if_refused P Q (Err errors.NoMemory) f x = tt

pub surely_here : (sure : Bool) (s : Step) (result : Result (DrawnIds × Reply) StepError) → ((told : Told) → StepCause told told s result) → IfRefused result (λ error handed. StopsSurely sure s handed)
surely_here sure s result c =
    if_refused (λ error handed. ⊥) (λ error handed. StopsSurely sure s handed) result (λ error handed x. absurd x) (no_refusal s result (c open_told))

-- a commit that failed
pub surely_commit : (sure : Bool) (k : ℕ) (payload : List ℕ) (fault : CommitFault) → HandsSurely sure (Err fault) → IfRefused (Err (step_error_of fault)) (λ error handed. StopsSurely sure (steps.Control k payload) handed)
surely_commit sure k payload commit_faults.NoMemory f = tt
surely_commit sure k payload (commit_faults.Refused error handed) f = by_known (is_unknown error)
  where
    by_known : (b : Bool) → MatchBool b ⊤ (StopsSurely sure (steps.Control k payload) handed)
    by_known true = tt
    by_known false = f

-- ---- all clauses

-- no call was made below, so no work was answered
checks-answer_here : {S : Type 0} (checks : S → S → Disposition → Result Unit SessionInnerError → Type 0) (below : S) (frame : Frame) (given : List Frame) (result : Result (DrawnIds × Reply) StepError) → RepliesToNoFrame result (steps.Frame frame) → IfRefused result (λ error handed. ⊥) → ChecksAnswer checks below below given result
checks-answer_here checks below frame given (Ok out) none refused = absurd none
checks-answer_here checks below frame given (Err (errors.Fault error handed)) unanswered refused =
    let none : ⊥ → ((own : SessionInnerError) × (error ≡ fault_of own) × ChecksGiven checks below below given (Err own)) = λ x. absurd x in
    on_false ⊤ (is_unknown error) none refused
checks-answer_here checks below frame given (Err (errors.Ended reason)) none refused = tt
checks-answer_here checks below frame given (Err (errors.Stopped code)) none refused = tt
checks-answer_here checks below frame given (Err errors.NoMemory) none refused = tt

checks-under_here : {S : Type 0} (checks : S → S → Disposition → Result Unit SessionInnerError → Type 0) (below : S) (frame : Frame) (o : Option TransactionId) (result : Result (DrawnIds × Reply) StepError) → RepliesToNoFrame result (steps.Frame frame) → IfRefused result (λ error handed. ⊥) → ChecksUnder checks below below frame o result
checks-under_here checks below frame None result none refused = tt
checks-under_here checks below frame (Some id) result none refused = checks-answer_here checks below frame (answered_under id frame) result none refused

checks-here : {S : Type 0} (checks : S → S → Disposition → Result Unit SessionInnerError → Type 0) (below : S) (s : Step) (result : Result (DrawnIds × Reply) StepError) → RepliesToNoFrame result s → IfRefused result (λ error handed. ⊥) → ChecksWork checks below below s result
checks-here checks below (steps.Frame frame) result none refused = checks-under_here checks below frame (txn frame) result none refused
checks-here checks below (steps.Control k payload) result none refused = tt
checks-here checks below (steps.LinkEnd k) result none refused = tt
checks-here checks below (steps.LocalEnd error) result none refused = tt
checks-here checks below (steps.RemoteEnd error) result none refused = tt
checks-here checks below (steps.ConnectionStop reason) result none refused = tt

-- a frame under no id has nothing checked
pub checks-none : {S : Type 0} (checks : S → S → Disposition → Result Unit SessionInnerError → Type 0) (below now : S) (frame : Frame) (result : Result (DrawnIds × Reply) StepError) → txn frame ≡ None → ChecksWork checks below now (steps.Frame frame) result
checks-none checks below now frame result e = subst (λ (o : Option TransactionId). ChecksUnder checks below now frame o result) (sym e) tt

-- a frame under an id
pub checks-post : {S : Type 0} (checks : S → S → Disposition → Result Unit SessionInnerError → Type 0) (below now : S) (frame : Frame) (id : TransactionId) (result : Result (DrawnIds × Reply) StepError) → txn frame ≡ Some id → ChecksAnswer checks below now (answered_under id frame) result → ChecksWork checks below now (steps.Frame frame) result
checks-post checks below now frame id result e x = subst (λ (o : Option TransactionId). ChecksUnder checks below now frame o result) (sym e) x

-- no call was made below
pub leaves-here : {S : Type 0} (tells : S → Told) (sure : Bool) (reviews : S → S → List Frame → Result Verdict NoMemory → Type 0) (checks : S → S → Disposition → Result Unit SessionInnerError → Type 0) (h g : Held) (below : S) (s : Step) (result : Result (DrawnIds × Reply) StepError) → LeavesHere h g s result → StepLeaves tells sure reviews checks h g below below s result
leaves-here tells sure reviews checks h g below s result x = record {
  keeps = λ f. x.keeps (tells below) f;
  left = x.left;
  cause = x.cause (tells below);
  surely = surely_here sure s result x.cause;
  ended = x.ended;
  same = x.same;
  untouched = no_call_holds s result (below ≡ below) refl;
  reviewed = no_veto s result _ (x.cause open_told);
  checked = checks-here checks below s result x.unanswered (no_refusal s result (x.cause open_told));
  fixed = refl;
  later = omega arith;
  counted = omega arith;
}

-- a frame for which calls were made below
pub leaves-frame : {S : Type 0} (tells : S → Told) (sure : Bool) (reviews : S → S → List Frame → Result Verdict NoMemory → Type 0) (checks : S → S → Disposition → Result Unit SessionInnerError → Type 0) (h g : Held) (below now : S) (frame : Frame) (result : Result (DrawnIds × Reply) StepError) → (Fits h → Keeps h g (tells below) (tells now) (steps.Frame frame) result) → StepCause (tells below) (tells now) (steps.Frame frame) result → OnNoMemory result (SameHeld h g) → OnNoCall (steps.Frame frame) result (now ≡ below) → OnVeto result (reviews below now (step_hands (view_of_held h) (steps.Frame frame)) (Ok verdicts.Veto)) → ChecksWork checks below now (steps.Frame frame) result → ErrorKeeps (view_of_held h) (view_of_held g) (steps.Frame frame) result → (tells now).fixed ≡ (tells below).fixed → (tells below).refusals ≤ (tells now).refusals → (tells now).reviews ≡ (tells below).reviews → StepLeaves tells sure reviews checks h g below now (steps.Frame frame) result
leaves-frame tells sure reviews checks h g below now frame result keeps cause same untouched reviewed checked left fixed later unreviewed = record {
  keeps = keeps;
  left = left;
  checked = checked;
  cause = cause;
  surely = surely_other result;
  ended = tt;
  same = same;
  untouched = untouched;
  reviewed = reviewed;
  fixed = fixed;
  later = later;
  counted = omega (arith, ap (λ x. x.vetoes) unreviewed);
}

-- what is kept may stand in other memory
pub leaves-moved : {S : Type 0} (tells : S → Told) (sure : Bool) (reviews : S → S → List Frame → Result Verdict NoMemory → Type 0) (checks : S → S → Disposition → Result Unit SessionInnerError → Type 0) (h m g : Held) (below now : S) (s : Step) (result : Result (DrawnIds × Reply) StepError) → SameHeld m g → StepLeaves tells sure reviews checks h m below now s result → StepLeaves tells sure reviews checks h g below now s result
leaves-moved tells sure reviews checks h m g below now s result same x = record {
  keeps = λ f. keeps_moved h m g (tells below) (tells now) s result same (x.keeps f);
  left = left_moved h m g s result same x.left;
  checked = x.checked;
  cause = x.cause;
  surely = x.surely;
  ended = x.ended;
  same = same_moved h m g result same x.same;
  untouched = x.untouched;
  reviewed = x.reviewed;
  fixed = x.fixed;
  later = x.later;
  counted = x.counted;
}

-- no ids were drawn
pub draws-none : {G : Type 0} (next : G → ℕ → TransactionId) (starts : G → Option (ℕ → TransactionId)) (ids : G) (result : Result (DrawnIds × Reply) StepError) → IfOk result (λ out. out.0 ≡ nothing_drawn) → StepDraws next starts ids ids result
draws-none next starts ids (Ok out) n = record {
  drew = subst (λ (d : DrawnIds). Drew (next ids) (next ids) d.ids) (sym n) (Drew-none (next ids) (next ids) (λ k. refl));
  source = tt;
  start = refl;
}
draws-none next starts ids (Err error) n = record { drew = tt; source = refl; start = refl }
