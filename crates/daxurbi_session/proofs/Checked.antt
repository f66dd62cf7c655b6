-- What the checks of a layer that was told its answer say of what was told.
use Rattle.std.proofs.Common.{List, None, Option, Some, [], ap, refl, sym, ◌∙◌, ◌∷◌, ◌≡◌, Result, Ok, Err, Bool, true, false}
use Rattle.std.specs.Prelude.{MatchBool, IfOk}
use Rattle.amqp_below_ids.specs.Drawn.{DrawnIds}
use Rattle.amqp_below_layer.specs.OneFrame.{ChecksAll, ChecksFrame, ChecksTo}
use Rattle.amqp_below_layer.specs.declared.inner_error.SessionInnerError.{SessionInnerError}
use Rattle.amqp_resource_record.specs.declared.reply.Reply.{Reply}
use Rattle.amqp_resource_record.specs.declared.step.Step.{Step}
use Rattle.amqp_resource_record.specs.declared.step.Step.TheVariants as steps
use Rattle.amqp_resource_record.specs.declared.stop.StepError.{StepError}
use Rattle.amqp_resource_record.specs.declared.stop.StepError.TheVariants as errors
use Rattle.amqp_resource_session.specs.Steps.{ChecksUnder, ChecksWork, IfRefused, fault_of, is_unknown}
use Rattle.amqp_txn_types.specs.Frames.{txn}
use Rattle.amqp_txn_types.specs.Presumptive.{answered_under}
use Rattle.amqp_txn_types.specs.declared.id.TransactionId.{TransactionId}
use Rattle.amqp_txn_types.specs.declared.performatives.Disposition.{Disposition}
use Rattle.amqp_txn_types.specs.declared.performatives.Frame.{Frame}
use Rattle.amqp_txn_types.specs.declared.performatives.Frame.TheVariants as frames
use Rattle.daxurbi_layer.specs.Answering.{refusal_told}
use Rattle.daxurbi_layer.specs.Handing.{Answers, PlainAnswer}
use Rattle.daxurbi_layer.specs.declared.below_answer.BelowAnswer.{BelowAnswer}
use Rattle.daxurbi_layer.specs.declared.told_layer.ToldLayer.{ToldLayer}
use Rattle.daxurbi_session.specs.ToldSteps.{IfChecked, RefusedAsTold, answered_for, answered_with}

-- how such a layer checks
abbrev pub checks : ToldLayer → ToldLayer → Disposition → Result Unit SessionInnerError → Type 0
checks old new disposition answer = Answers old new answer

none_told : (o : Option SessionInnerError) → PlainAnswer o (Ok tt) → o ≡ None
none_told None fine = refl
none_told (Some error) fine = absurd (cc fine)

some_told : (o : Option SessionInnerError) (own : SessionInnerError) → PlainAnswer o (Err own) → o ≡ Some own
some_told None own not = absurd (cc not)
some_told (Some error) own is = cc is

frame_keeps : (frame : Frame) (old new : ToldLayer) (result : Result Unit SessionInnerError) → ChecksFrame checks old new frame result → new.answer ≡ old.answer
frame_keeps (frames.Disposition disposition) old new result gives = gives.answer
frame_keeps (frames.Attach attach) old new result gives = ap (λ (l : ToldLayer). l.answer) gives.1
frame_keeps (frames.Flow flow) old new result gives = ap (λ (l : ToldLayer). l.answer) gives.1
frame_keeps (frames.Transfer transfer payload) old new result gives = ap (λ (l : ToldLayer). l.answer) gives.1
frame_keeps (frames.Detach detach) old new result gives = ap (λ (l : ToldLayer). l.answer) gives.1

all_keep : (given : List Frame) (old new : ToldLayer) → ChecksAll checks old given new → new.answer ≡ old.answer
all_keep [] old new same = ap (λ (l : ToldLayer). l.answer) same
all_keep (frame ∷ rest) old new (mid, head, tail) = all_keep rest mid new tail ∙ frame_keeps frame old mid (Ok tt) head

frame_refused : (frame : Frame) (old new : ToldLayer) (own : SessionInnerError) → ChecksFrame checks old new frame (Err own) → refusal_told old.answer ≡ Some own
frame_refused (frames.Disposition disposition) old new own gives = some_told (refusal_told old.answer) own gives.gives
frame_refused (frames.Attach attach) old new own gives = absurd (cc gives.0)
frame_refused (frames.Flow flow) old new own gives = absurd (cc gives.0)
frame_refused (frames.Transfer transfer payload) old new own gives = absurd (cc gives.0)
frame_refused (frames.Detach detach) old new own gives = absurd (cc gives.0)

-- the checks passed
all_passed : (told : BelowAnswer) (given : List Frame) (old new : ToldLayer) → old.answer ≡ told → ChecksAll checks old given new → IfChecked given (refusal_told told ≡ None)
all_passed told [] old new is all = tt
all_passed told (frames.Disposition disposition ∷ rest) old new is (mid, head, tail) = ap refusal_told (sym is) ∙ none_told (refusal_told old.answer) head.gives
all_passed told (frames.Attach attach ∷ rest) old new is all = tt
all_passed told (frames.Flow flow ∷ rest) old new is all = tt
all_passed told (frames.Transfer transfer payload ∷ rest) old new is all = tt
all_passed told (frames.Detach detach ∷ rest) old new is all = tt

-- one of them was refused
one_refused : (told : BelowAnswer) (given : List Frame) (old new : ToldLayer) (own : SessionInnerError) → old.answer ≡ told → ChecksTo checks old given own new → refusal_told told ≡ Some own
one_refused told given old new own is (before, frame, after, mid, parts, passed, last) =
    ap refusal_told (sym (all_keep before old mid passed ∙ is)) ∙ frame_refused frame mid new own last

if_checked : (given : List Frame) {P : Type 0} → P → IfChecked given P
if_checked [] p = tt
if_checked (frames.Disposition disposition ∷ rest) p = p
if_checked (frames.Attach attach ∷ rest) p = tt
if_checked (frames.Flow flow ∷ rest) p = tt
if_checked (frames.Transfer transfer payload ∷ rest) p = tt
if_checked (frames.Detach detach ∷ rest) p = tt

-- a reply to work
under_passed : (told : BelowAnswer) (frame : Frame) (o : Option TransactionId) (old new : ToldLayer) (result : Result (DrawnIds × Reply) StepError) → old.answer ≡ told
    → ChecksUnder checks old new frame o result → IfOk result (λ out. IfChecked (answered_for o frame) (refusal_told told ≡ None))
under_passed told frame None old new (Ok out) is checked = tt
under_passed told frame (Some id) old new (Ok out) is checked = all_passed told (answered_under id frame) old new is checked
under_passed told frame o old new (Err error) is checked = tt

pub work_passed : (told : BelowAnswer) (step : Step) (old new : ToldLayer) (result : Result (DrawnIds × Reply) StepError) → old.answer ≡ told
    → ChecksWork checks old new step result → IfOk result (λ out. IfChecked (answered_with step) (refusal_told told ≡ None))
work_passed told (steps.Frame frame) old new result is checked = under_passed told frame (txn frame) old new result is checked
work_passed told (steps.Control link payload) old new (Ok out) is checked = tt
work_passed told (steps.LinkEnd link) old new (Ok out) is checked = tt
work_passed told (steps.LocalEnd error) old new (Ok out) is checked = tt
work_passed told (steps.RemoteEnd error) old new (Ok out) is checked = tt
work_passed told (steps.ConnectionStop reason) old new (Ok out) is checked = tt
work_passed told (steps.Control link payload) old new (Err error) is checked = tt
work_passed told (steps.LinkEnd link) old new (Err error) is checked = tt
work_passed told (steps.LocalEnd own) old new (Err error) is checked = tt
work_passed told (steps.RemoteEnd own) old new (Err error) is checked = tt
work_passed told (steps.ConnectionStop reason) old new (Err error) is checked = tt

-- a refusal of work
refused_by_told : (b : Bool) (told : BelowAnswer) (given : List Frame) (old new : ToldLayer) (error : SessionInnerError) → old.answer ≡ told
    → MatchBool b (Unit {0}) ((own : SessionInnerError) × (error ≡ fault_of own) × ChecksTo checks old given own new)
    → MatchBool b (Unit {0}) (IfChecked given (RefusedAsTold told error))
refused_by_told true told given old new error is refused = tt
refused_by_told false told given old new error is (own, gives, to) = if_checked given (own, gives, one_refused told given old new own is to)

match_true : (b : Bool) → MatchBool b (Unit {0}) (Unit {0})
match_true true = tt
match_true false = tt

under_refused : (told : BelowAnswer) (frame : Frame) (o : Option TransactionId) (old new : ToldLayer) (result : Result (DrawnIds × Reply) StepError) → old.answer ≡ told
    → ChecksUnder checks old new frame o result → IfRefused result (λ error handed. IfChecked (answered_for o frame) (RefusedAsTold told error))
under_refused told frame None old new (Err (errors.Fault error handed)) is checked = match_true (is_unknown error)
under_refused told frame (Some id) old new (Err (errors.Fault error handed)) is checked = refused_by_told (is_unknown error) told (answered_under id frame) old new error is checked
under_refused told frame o old new (Err (errors.Ended reason)) is checked = tt
under_refused told frame o old new (Err (errors.Stopped code)) is checked = tt
under_refused told frame o old new (Err errors.NoMemory) is checked = tt
under_refused told frame o old new (Ok out) is checked = tt

other_refused : (told : BelowAnswer) (result : Result (DrawnIds × Reply) StepError) → IfRefused result (λ error handed. IfChecked [] (RefusedAsTold told error))
other_refused told (Err (errors.Fault error handed)) = match_true (is_unknown error)
other_refused told (Err (errors.Ended reason)) = tt
other_refused told (Err (errors.Stopped code)) = tt
other_refused told (Err errors.NoMemory) = tt
other_refused told (Ok out) = tt

pub work_refused : (told : BelowAnswer) (step : Step) (old new : ToldLayer) (result : Result (DrawnIds × Reply) StepError) → old.answer ≡ told
    → ChecksWork checks old new step result → IfRefused result (λ error handed. IfChecked (answered_with step) (RefusedAsTold told error))
work_refused told (steps.Frame frame) old new result is checked = under_refused told frame (txn frame) old new result is checked
work_refused told (steps.Control link payload) old new result is checked = other_refused told result
work_refused told (steps.LinkEnd link) old new result is checked = other_refused told result
work_refused told (steps.LocalEnd error) old new result is checked = other_refused told result
work_refused told (steps.RemoteEnd error) old new result is checked = other_refused told result
work_refused told (steps.ConnectionStop reason) old new result is checked = other_refused told result
