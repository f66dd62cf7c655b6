-- What one step is, what it hands and takes memory for, by a view, and when each answer may come.
use Rattle.std.specs.Prelude.{ℕ, Bool, true, false, not, cond, ◌&&◌, ◌≡◌, ◌≤◌, ◌⊎◌, ⊤, Option, Some, None, Result, Ok, Err, List, [], ◌∷◌, length, map, take, slice_get, is_some, is_none, MatchBool}
use Rattle.std.specs.List.{zip}
use Rattle.amqp_txn_codec.specs.declared.message.ControlMessageBody.{ControlMessageBody}
use Rattle.amqp_below_ids.specs.Drawn.{DrawnIds}
use Rattle.amqp_resource_record.specs.declared.entry.Entry.{Entry}
use Rattle.amqp_txn_types.specs.declared.delivery.Error.{Error}
use Rattle.amqp_txn_types.specs.declared.performatives.Frame.{Frame}
use Rattle.amqp_below_layer.specs.declared.refusal.Refusal.{Refusal}
use Rattle.amqp_resource_record.specs.declared.reply.Reply.{Reply}
use Rattle.amqp_txn_types.specs.Counts.{Rose}
use Rattle.amqp_below_layer.specs.declared.inner_error.SessionInnerError.{SessionInnerError}
use Rattle.amqp_txn_types.specs.declared.delivery.SessionStopReason.{SessionStopReason}
use Rattle.amqp_resource_record.specs.declared.step.Step.{Step}
use Rattle.amqp_resource_record.specs.declared.stop.StepError.{StepError}
use Rattle.amqp_below_layer.specs.Told.{Told, refusal_of}
use Rattle.amqp_below_layer.specs.OneFrame.{TookFrames}
use Rattle.amqp_txn_types.specs.declared.id.TransactionId.{TransactionId}
use Rattle.amqp_txn_types.specs.Presumptive.{answered_under}
use Rattle.amqp_resource_record.specs.Work.{given_by, handed_by}
use Rattle.amqp_txn_types.specs.Growing.{grown}
use Rattle.amqp_txn_types.specs.Frames.{is_coordinator_attach, is_plain_frame, stripped, txn}
use Rattle.amqp_txn_codec.specs.Discharges.{is_rollback}
use Rattle.amqp_resource_record.specs.Entries.{is_veto}
use Rattle.amqp_txn_codec.specs.Reading.{message_of}
use Rattle.amqp_resource_record.specs.Opened.{opened_by, refused_by}
use Rattle.amqp_resource_record.specs.Vetoed.{vetoed_by}
use Rattle.amqp_below_layer.specs.OneFrame.{ChecksGiven}
use Rattle.amqp_txn_types.specs.declared.performatives.Disposition.{Disposition}
use Rattle.amqp_txn_types.specs.declared.small.TransactionError.TheVariants as transaction_errors
use Rattle.amqp_txn_types.specs.declared.delivery.ConnectionStopReason.{ConnectionStopReason}
use Rattle.amqp_txn_types.specs.declared.delivery.ConnectionStopReason.TheVariants as stop_reasons
use Rattle.amqp_txn_types.specs.declared.delivery.SessionStopReason.TheVariants as reasons
use Rattle.amqp_txn_codec.specs.declared.message.ControlMessageBody.TheVariants as messages
use Rattle.amqp_below_layer.specs.declared.inner_error.SessionInnerError.TheVariants as faults
use Rattle.amqp_resource_record.specs.declared.step.Step.TheVariants as steps
use Rattle.amqp_resource_record.specs.declared.reply.Reply.TheVariants as replies
use Rattle.amqp_resource_record.specs.declared.stop.StepError.TheVariants as errors
use Rattle.amqp_resource_held.specs.Views.{View, frames_in, is_held_in, is_live_in}

-- a step with its draws and reply
abbrev pub entry_of : Step → DrawnIds → Reply → Entry
entry_of step drawn reply = record { step = step; drawn = drawn; reply = reply }

-- the ids of a step that draws none
abbrev pub nothing_drawn : DrawnIds
nothing_drawn = record { ids = []; spare = 0 }

-- ---- what a step is

-- the end that the session's own side asks for
abbrev pub local_end : Option Error → SessionStopReason
local_end None = reasons.Ended
local_end (Some error) = reasons.EndedWithError error

-- the end that the peer asks for
abbrev pub remote_end : Option Error → SessionStopReason
remote_end None = reasons.RemoteEnded
remote_end (Some error) = reasons.RemoteEndedWithError error

-- the session's end that a step asks for, with the step's own value
abbrev pub ended_by : Step → Option SessionStopReason
ended_by (steps.LocalEnd error) = Some (local_end error)
ended_by (steps.RemoteEnd error) = Some (remote_end error)
ended_by (steps.ConnectionStop reason) = Some (reasons.ConnectionStopped reason)
ended_by _ = None

-- there is an id, and it isn't live
abbrev pub IsDead : View → Option TransactionId → Type 0
IsDead view None = ⊥
IsDead view (Some id) = is_live_in view id ≡ false

-- the step is a frame under an id that isn't live
abbrev pub UnderDead : View → Step → Type 0
UnderDead view (steps.Frame frame) = IsDead view (txn frame)
UnderDead view _ = ⊥

-- there is an id
abbrev pub IsUnder : Option TransactionId → Type 0
IsUnder None = ⊥
IsUnder (Some id) = Unit {0}

-- the step is a post or a retirement: a frame under an id
abbrev pub IsPost : Step → Type 0
IsPost (steps.Frame frame) = IsUnder (txn frame)
IsPost _ = ⊥

-- the step is an attach to a coordinator
abbrev pub IsControlAttach : Step → Type 0
IsControlAttach (steps.Frame frame) = is_coordinator_attach frame ≡ true
IsControlAttach _ = ⊥

-- what a message on an open link hands: a commit of an id that was declared there, its frames, each
-- stripped
abbrev pub message_hands : View → ℕ → Option ControlMessageBody → List Frame
message_hands view link (Some (messages.Discharge discharge)) =
    cond (not (is_rollback discharge.fail) && is_held_in view link discharge.txn_id)
    (map stripped (frames_in view discharge.txn_id)) []
message_hands view link _ = []

-- what a step hands: a plain frame itself, a control message what it hands on an open link. By a
-- record's view that is what it hands by the record (`the_view_of_a_record_looks_back`)
abbrev pub step_hands : View → Step → List Frame
step_hands view (steps.Frame frame) = cond (is_plain_frame frame) (frame ∷ []) []
step_hands view (steps.Control link payload) =
    cond (view.links link) (message_hands view link (message_of payload)) []
step_hands view _ = []

-- a frame calls below where it is plain, or is answered with a disposition
abbrev pub FrameMayFault : View → Frame → Option TransactionId → Type 0
FrameMayFault view frame None = is_coordinator_attach frame ≡ false
FrameMayFault view frame (Some id) =
    (is_live_in view id ≡ true) × (1 ≤ length (answered_under id frame))

-- a step that hands these frames and that a refusal below may stop: a plain frame, a post that is
-- answered with a disposition, a commit with at least one frame, which runs out of memory
abbrev pub MayFault : View → Step → List Frame → SessionInnerError → Type 0
MayFault view (steps.Frame frame) frames error = FrameMayFault view frame (txn frame)
MayFault view (steps.Control link payload) frames error =
    (1 ≤ length frames) × (error ≡ faults.NoMemory)
MayFault view _ frames error = ⊥

-- an id, if there is one, is live
abbrev pub is_live_under : View → Option TransactionId → Bool
is_live_under view None = true
is_live_under view (Some id) = is_live_in view id

-- a message on an open link takes memory where it is a declare without a global id or a commit of
-- an id that was declared there
abbrev pub message_takes_memory : View → ℕ → Option ControlMessageBody → Bool
message_takes_memory view link None = false
message_takes_memory view link (Some (messages.Declare declare)) = is_none declare.global_id
message_takes_memory view link (Some (messages.Discharge discharge)) =
    not (is_rollback discharge.fail) && is_held_in view link discharge.txn_id

-- a connection's stop with an error
abbrev pub stop_takes_memory : ConnectionStopReason → Bool
stop_takes_memory stop_reasons.Closed = false
stop_takes_memory stop_reasons.RemoteClosed = false
stop_takes_memory _ = true

-- an end with an error, of which a copy is made
abbrev pub has_error : SessionStopReason → Bool
has_error reasons.Ended = false
has_error (reasons.EndedWithError error) = true
has_error reasons.RemoteEnded = false
has_error (reasons.RemoteEndedWithError error) = true
has_error (reasons.ConnectionStopped reason) = stop_takes_memory reason

-- the steps that take memory; all others never want it
abbrev pub takes_memory : View → Step → Bool
takes_memory view (steps.Frame frame) = is_live_under view (txn frame)
takes_memory view (steps.Control link payload) =
    view.links link && message_takes_memory view link (message_of payload)
takes_memory view (steps.LinkEnd link) = false
takes_memory view (steps.LocalEnd error) = is_some error
takes_memory view (steps.RemoteEnd error) = is_some error
takes_memory view (steps.ConnectionStop reason) = stop_takes_memory reason

-- ---- refusals of the layer below

-- the fault of an id that isn't live
abbrev pub is_unknown : SessionInnerError → Bool
is_unknown faults.UnknownTxnId = true
is_unknown _ = false

-- what a refusal below is given as
abbrev pub fault_of : SessionInnerError → SessionInnerError
fault_of faults.UnknownTxnId = faults.IllegalState
fault_of error = error

-- what a fault adds to what was refused: the frame at the place of those that the step hands, with
-- the layer's own error; or nothing, where an outgoing disposition may have been refused
abbrev pub AddsRefusal : Step → List Frame → ℕ → SessionInnerError → List Refusal → Type 0
AddsRefusal step frames at error more =
    (own : SessionInnerError) × (error ≡ fault_of own)
    × (((frame : Frame) × (slice_get frames at ≡ Some frame) × (more ≡ refusal_of frame own))
    ⊎ ((more ≡ []) × (IsPost step ⊎ (1 ≤ at))))

-- ---- what an answer leaves

-- below took what the step hands, each frame with what the reply says was given back for it, and
-- nothing where the step was rejected
abbrev pub TookHands : Told → Told → List Entry → Step → Reply → Type 0
TookHands old new entries step reply =
    new.taken ≡ grown old.taken (zip (handed_by entries step reply) (given_by step reply))

-- below took the first of the frames that a step hands
abbrev pub TookFirst : Told → Told → List Frame → ℕ → Type 0
TookFirst old new frames handed =
    (handed ≤ length frames) × TookFrames old.taken new.taken (take handed frames)

-- below opened what the reply says
abbrev pub OpenedBy : Told → Told → Step → Reply → Type 0
OpenedBy old new step reply = new.opened ≡ grown old.opened (opened_by step reply)

-- below refused what the reply says
abbrev pub RefusedBy : Told → Told → Step → Reply → Type 0
RefusedBy old new step reply = new.refused ≡ grown old.refused (refused_by step reply)

-- below vetoed what the step hands, where the reply says so, and else nothing
abbrev pub VetoedBy : Told → Told → List Entry → Step → Reply → Type 0
VetoedBy old new entries step reply =
    new.reviews.vetoed ≡ grown old.reviews.vetoed (vetoed_by entries step reply)

-- below refused what the fault of a step adds that hands these frames
abbrev pub RefusedAdds : Told → Told → Step → List Frame → SessionInnerError → ℕ → Type 0
RefusedAdds old new step frames error handed =
    (more : List Refusal) × AddsRefusal step frames handed error more
    × (new.refused ≡ grown old.refused more)

-- a refusal below stopped a step that hands these frames: the first of them were taken
pub record Refused (view : View) (old new : Told) (step : Step) (frames : List Frame)
    (error : SessionInnerError) (handed : ℕ) : Type 0 where
  pub fits : MayFault view step frames error
  pub took : TookFirst old new frames handed
  pub opened : new.opened ≡ old.opened
  pub refused : RefusedAdds old new step frames error handed
  pub vetoed : new.reviews.vetoed ≡ old.reviews.vetoed

-- ---- causes

-- a reply that is a refused attach, with a fact
abbrev pub IfAttachRefused : Reply → Type 0 → Type 0
IfAttachRefused (replies.AttachRefused error) P = P
IfAttachRefused _ P = ⊤

-- a reply that is a veto, with a fact
abbrev pub IfVeto : Reply → Type 0 → Type 0
IfVeto (replies.Rejected transaction_errors.Rollback text) P = P
IfVeto _ P = ⊤

-- when each answer may come on a session that hasn't stopped, whatever it stands for
abbrev pub StepCause : Told → Told → Step → Result (DrawnIds × Reply) StepError → Type 0
StepCause old new step (Ok out) =
    IfAttachRefused out.1 (Rose old.refusals new.refusals)
    × IfVeto out.1 (Rose old.reviews.vetoes new.reviews.vetoes)
StepCause old new step (Err (errors.Fault error handed)) =
    MatchBool (is_unknown error) (IsPost step × (handed ≡ 0)) (Rose old.refusals new.refusals)
StepCause old new step (Err (errors.Ended reason)) = ended_by step ≡ Some reason
StepCause old new step (Err (errors.Stopped code)) = ⊥
StepCause old new step (Err errors.NoMemory) = Unit {0}

-- the message is a discharge that rolls back
abbrev pub rolls_back_by : Option ControlMessageBody → Bool
rolls_back_by (Some (messages.Discharge discharge)) = is_rollback discharge.fail
rolls_back_by _ = false

-- the step asks for a rollback
abbrev pub asks_rollback : Step → Bool
asks_rollback (steps.Control link payload) = rolls_back_by (message_of payload)
asks_rollback _ = false

-- a frame under an id that is answered with no frame
abbrev pub is_unanswered : Step → List Frame → Bool
is_unanswered (steps.Frame frame) [] = is_some (txn frame)
is_unanswered _ _ = false

-- the replies that come without a call below: to the end of a link, to a message or an end on a
-- link that isn't open, to a payload that closes its link, to a declare, to a message that is
-- rejected other than by a veto, to a rollback that is accepted, to a commit that is accepted
-- without echoes, as one of no frames, and to work that is kept and answered with no frame
abbrev pub calls_nothing : Step → Reply → Bool
calls_nothing step (replies.Frames answers) = is_unanswered step answers.given
calls_nothing step replies.LinkEnded = true
calls_nothing step replies.NoLink = true
calls_nothing step (replies.LinkClosed error) = true
calls_nothing step (replies.Declared id) = true
calls_nothing step (replies.Rejected error text) = not (is_veto (replies.Rejected error text))
calls_nothing step (replies.Accepted []) = true
calls_nothing step (replies.Accepted (echo ∷ echoes)) = asks_rollback step
calls_nothing step _ = false

-- an answer without a call below: such a reply, an id that isn't live, an end, a stop before, or
-- out of memory of the session's own
abbrev pub OnNoCall : Step → Result (DrawnIds × Reply) StepError → Type 0 → Type 0
OnNoCall step (Ok out) P = MatchBool (calls_nothing step out.1) P ⊤
OnNoCall step (Err (errors.Fault error handed)) P = MatchBool (is_unknown error) P ⊤
OnNoCall step (Err _) P = P

-- a refusal below, with its fault and how many frames were taken
abbrev pub IfRefused : Result (DrawnIds × Reply) StepError → (SessionInnerError → ℕ → Type 0)
    → Type 0
IfRefused (Err (errors.Fault error handed)) P = MatchBool (is_unknown error) ⊤ (P error handed)
IfRefused _ P = ⊤

-- a refusal below in a commit, by how many frames were taken: over a sure layer none was
abbrev pub StopsSurely : Bool → Step → ℕ → Type 0
StopsSurely sure (steps.Control link payload) handed = sure ≡ true → handed ≡ 0
StopsSurely sure _ handed = ⊤

-- the fault of an id that isn't live, with how many frames were taken
abbrev pub IfUnknown : Result (DrawnIds × Reply) StepError → (ℕ → Type 0) → Type 0
IfUnknown (Err (errors.Fault error handed)) P = MatchBool (is_unknown error) (P handed) ⊤
IfUnknown _ P = ⊤

-- an end, with its value
abbrev pub IfEnded : Result (DrawnIds × Reply) StepError → (SessionStopReason → Type 0) → Type 0
IfEnded (Err (errors.Ended reason)) P = P reason
IfEnded _ P = ⊤

-- out of memory of the session's own
abbrev pub OnNoMemory : Result (DrawnIds × Reply) StepError → Type 0 → Type 0
OnNoMemory (Err errors.NoMemory) P = P
OnNoMemory _ P = ⊤

-- a veto
abbrev pub OnVeto : Result (DrawnIds × Reply) StepError → Type 0 → Type 0
OnVeto (Ok out) P = IfVeto out.1 P
OnVeto (Err error) P = ⊤

-- a refused attach
abbrev pub OnAttachRefused : Result (DrawnIds × Reply) StepError → Type 0 → Type 0
OnAttachRefused (Ok out) P = IfAttachRefused out.1 P
OnAttachRefused (Err error) P = ⊤

-- ---- the check of a presumptive disposition

-- the checks of what work is answered with at once: on a reply each of them was answered Ok, and no
-- other call was made below; a fault is the refusal of one of them, after those before it were
-- answered Ok (part 4, section 4.4)
abbrev pub ChecksAnswer : {S : Type 0}
    → (S → S → Disposition → Result Unit SessionInnerError → Type 0) → S → S → List Frame
    → Result (DrawnIds × Reply) StepError → Type 0
ChecksAnswer checks old new given (Ok out) = ChecksGiven checks old new given (Ok tt)
ChecksAnswer checks old new given (Err (errors.Fault error handed)) =
    MatchBool (is_unknown error) ⊤ ((own : SessionInnerError) × (error ≡ fault_of own)
    × ChecksGiven checks old new given (Err own))
ChecksAnswer checks old new given (Err _) = ⊤

-- a frame, by the id that it is under, if any: of a frame under none nothing is said
abbrev pub ChecksUnder : {S : Type 0}
    → (S → S → Disposition → Result Unit SessionInnerError → Type 0) → S → S → Frame
    → Option TransactionId → Result (DrawnIds × Reply) StepError → Type 0
ChecksUnder checks old new frame None result = ⊤
ChecksUnder checks old new frame (Some id) result =
    ChecksAnswer checks old new (answered_under id frame) result

-- a step
abbrev pub ChecksWork : {S : Type 0}
    → (S → S → Disposition → Result Unit SessionInnerError → Type 0) → S → S → Step
    → Result (DrawnIds × Reply) StepError → Type 0
ChecksWork checks old new (steps.Frame frame) result =
    ChecksUnder checks old new frame (txn frame) result
ChecksWork checks old new _ result = ⊤

-- a reply to a step that isn't a frame
abbrev pub RepliesToNoFrame : Result (DrawnIds × Reply) StepError → Step → Type 0
RepliesToNoFrame (Err error) step = Unit {0}
RepliesToNoFrame (Ok out) (steps.Frame frame) = ⊥
RepliesToNoFrame (Ok out) _ = Unit {0}

-- ---- errors

-- the error isn't that of a session that had stopped before
abbrev pub IsFirstStop : StepError → Type 0
IsFirstStop (errors.Stopped code) = ⊥
IsFirstStop _ = Unit {0}

-- an end is answered with its own value, or with out of memory where it has an error
abbrev pub AnswersEnd : Option SessionStopReason → Result (DrawnIds × Reply) StepError → Type 0
AnswersEnd None result = ⊤
AnswersEnd (Some reason) (Ok out) = ⊥
AnswersEnd (Some reason) (Err (errors.Fault error handed)) = ⊥
AnswersEnd (Some reason) (Err (errors.Ended got)) = got ≡ reason
AnswersEnd (Some reason) (Err (errors.Stopped code)) = ⊥
AnswersEnd (Some reason) (Err errors.NoMemory) = has_error reason ≡ true

-- a step is answered with its own end, or with out of memory where the end has an error
abbrev pub EndGave : SessionStopReason → Bool → StepError → Type 0
EndGave reason takes (errors.Ended got) = got ≡ reason
EndGave reason takes errors.NoMemory = takes ≡ true
EndGave reason takes _ = ⊥
