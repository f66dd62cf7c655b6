-- What a step answers and leaves, by the view before it and the view after it. Clauses take the
-- views of a session that hasn't stopped, whether it stands for a record or not; proofs also that
-- of a record.
use Rattle.std.specs.Prelude.{ℕ, Bool, true, false, ◌≡◌, Option, Some, None, Result, Ok, Err, List, [], map, MatchBool}
use Rattle.amqp_below_layer.specs.declared.answers.Answers.{Answers}
use Rattle.amqp_txn_codec.specs.declared.message.ControlMessageBody.{ControlMessageBody}
use Rattle.amqp_below_ids.specs.Drawn.{DrawnIds}
use Rattle.amqp_txn_types.specs.declared.performatives.Frame.{Frame}
use Rattle.amqp_resource_held.specs.declared.held.Held.{Held}
use Rattle.amqp_resource_record.specs.declared.reply.Reply.{Reply}
use Rattle.amqp_below_layer.specs.Told.{Steady, Told}
use Rattle.amqp_resource_record.specs.declared.step.Step.{Step}
use Rattle.amqp_resource_record.specs.declared.stop.StepError.{StepError}
use Rattle.amqp_below_layer.specs.OneFrame.{TakesFrame}
use Rattle.amqp_txn_types.specs.declared.id.TransactionId.{TransactionId}
use Rattle.amqp_txn_types.specs.Presumptive.{answered_under}
use Rattle.amqp_txn_types.specs.Frames.{is_coordinator_attach, stripped, txn}
use Rattle.amqp_txn_codec.specs.Discharges.{is_rollback}
use Rattle.amqp_txn_codec.specs.Reading.{message_of}
use Rattle.amqp_txn_types.specs.declared.small.AmqpError.TheVariants as amqp_errors
use Rattle.amqp_txn_types.specs.declared.small.TransactionError.TheVariants as transaction_errors
use Rattle.amqp_txn_codec.specs.declared.message.ControlMessageBody.TheVariants as messages
use Rattle.amqp_resource_record.specs.declared.step.Step.TheVariants as steps
use Rattle.amqp_resource_record.specs.declared.reply.RejectText.TheVariants as texts
use Rattle.amqp_resource_record.specs.declared.reply.Reply.TheVariants as replies
use Rattle.amqp_resource_record.specs.declared.stop.StepError.TheVariants as errors
use Rattle.amqp_resource_held.specs.Draws.{DrewLive}
use Rattle.amqp_resource_held.specs.Views.{SameView, View, frames_in, is_held_in, view_of_held}
use Rattle.amqp_resource_held.specs.Changes.{Arrives, Attaches, Closes, Declares, Ends, Fits}
use Rattle.amqp_resource_session.specs.Steps.{OpenedBy, Refused, RefusedBy, UnderDead, ended_by, is_unknown, step_hands, takes_memory}
use Rattle.amqp_resource_session.specs.Committing.{HandsAll}

-- nothing changes, and no call was made below
pub record NothingChanges (old new : View) (old_told new_told : Told) : Type 0 where
  pub same : SameView old new
  pub below : new_told ≡ old_told

-- ---- frames

-- a frame under a live id is the last under it, and every other id has what it had; nothing was
-- taken, opened or refused, and the answer is its presumptive disposition, or no frame
pub record PostKeeps (old new : View) (old_told new_told : Told) (frame : Frame)
    (id : TransactionId) (answers : Answers) : Type 0 where
  pub arrives : Arrives old new frame id
  pub below : Steady old_told new_told
  pub answered : answers ≡ record { given = answered_under id frame; window = None }

-- below opened or refused what the reply says, and nothing was taken or vetoed
pub record AttachCalls (old_told new_told : Told) (frame : Frame) (reply : Reply) : Type 0 where
  pub taken : new_told.taken ≡ old_told.taken
  pub opened : OpenedBy old_told new_told (steps.Frame frame) reply
  pub refused : RefusedBy old_told new_told (steps.Frame frame) reply
  pub reviews : new_told.reviews ≡ old_told.reviews

-- a frame under no id, by whether it attaches to a coordinator: such an attach opens a link, or is
-- refused; a plain frame was taken
abbrev pub PlainKeeps : View → View → Told → Told → Frame → Bool → Reply → Type 0
PlainKeeps old new old_told new_told frame false (replies.Frames answers) =
    SameView old new × TakesFrame old_told new_told frame (Ok answers)
PlainKeeps old new old_told new_told frame true (replies.Attached link given) =
    Attaches old new link × AttachCalls old_told new_told frame (replies.Attached link given)
PlainKeeps old new old_told new_told frame true (replies.AttachRefused error) =
    SameView old new × AttachCalls old_told new_told frame (replies.AttachRefused error)
PlainKeeps old new old_told new_told frame _ _ = ⊥

-- a frame, by the id that it is under, if any
abbrev pub FrameKeeps : View → View → Told → Told → Frame → Option TransactionId → Reply → Type 0
FrameKeeps old new old_told new_told frame None reply =
    PlainKeeps old new old_told new_told frame (is_coordinator_attach frame) reply
FrameKeeps old new old_told new_told frame (Some id) (replies.Frames answers) =
    PostKeeps old new old_told new_told frame id answers
FrameKeeps old new old_told new_told frame (Some id) _ = ⊥

-- ---- control messages and the ends of links

-- a declare, by its global id: with one it is rejected; without one an id is declared, or the
-- declare is rejected where 16 live ids were drawn
abbrev pub DeclareKeeps : ℕ → View → View → Told → Told → Option TransactionId
    → List TransactionId → Reply → Type 0
DeclareKeeps link old new old_told new_told (Some global) drawn
    (replies.Rejected transaction_errors.UnknownId texts.GlobalId) =
    (drawn ≡ []) × NothingChanges old new old_told new_told
DeclareKeeps link old new old_told new_told None drawn (replies.Declared id) =
    Declares link old new drawn id × (new_told ≡ old_told)
DeclareKeeps link old new old_told new_told None drawn
    (replies.Rejected transaction_errors.UnknownId texts.IdsRepeat) =
    DrewLive old.live drawn × NothingChanges old new old_told new_told
DeclareKeeps link old new old_told new_told _ drawn _ = ⊥

-- a rollback hands nothing, a commit the frames under the id, each stripped
abbrev pub DischargeHands : Told → Told → Bool → List Frame → List Answers → Type 0
DischargeHands old_told new_told true frames echoes = (echoes ≡ []) × (new_told ≡ old_told)
DischargeHands old_told new_told false frames echoes =
    HandsAll old_told new_told (map stripped frames) (Ok (Ok echoes))

-- a commit was vetoed, with the frames under the id, each stripped
pub record Vetoes (old_told new_told : Told) (rollback : Bool) (frames : List Frame) : Type 0 where
  pub commits : rollback ≡ false
  pub vetoed : HandsAll old_told new_told (map stripped frames)
      (Ok (Err transaction_errors.Rollback))

-- a discharge: of an id that isn't live, or that the link didn't declare, it is rejected; any other
-- id ends, and the discharge is accepted, or vetoed where it is a commit
abbrev pub DischargeKeeps : ℕ → View → View → Told → Told → TransactionId → Bool
    → List TransactionId → Reply → Type 0
DischargeKeeps link old new old_told new_told id rollback drawn
    (replies.Rejected transaction_errors.UnknownId texts.Absent) =
    (is_held_in old link id ≡ false) × (drawn ≡ []) × NothingChanges old new old_told new_told
DischargeKeeps link old new old_told new_told id rollback drawn
    (replies.Rejected transaction_errors.Rollback texts.Absent) =
    Ends link old new id × (drawn ≡ []) × Vetoes old_told new_told rollback (frames_in old id)
DischargeKeeps link old new old_told new_told id rollback drawn (replies.Accepted echoes) =
    Ends link old new id × (drawn ≡ [])
    × DischargeHands old_told new_told rollback (frames_in old id) echoes
DischargeKeeps link old new old_told new_told id rollback drawn _ = ⊥

-- a message on an open link: a payload that spells none closes the link
abbrev pub MessageKeeps : ℕ → View → View → Told → Told → Option ControlMessageBody
    → List TransactionId → Reply → Type 0
MessageKeeps link old new old_told new_told None drawn (replies.LinkClosed amqp_errors.NotAllowed) =
    (drawn ≡ []) × Closes link old new × (new_told ≡ old_told)
MessageKeeps link old new old_told new_told None drawn _ = ⊥
MessageKeeps link old new old_told new_told (Some (messages.Declare declare)) drawn reply =
    DeclareKeeps link old new old_told new_told declare.global_id drawn reply
MessageKeeps link old new old_told new_told (Some (messages.Discharge discharge)) drawn reply =
    DischargeKeeps link old new old_told new_told discharge.txn_id
    (is_rollback discharge.fail) drawn reply

-- a control message, by whether its link is open
abbrev pub ControlKeeps : ℕ → View → View → Told → Told → Bool → Option ControlMessageBody
    → List TransactionId → Reply → Type 0
ControlKeeps link old new old_told new_told false message drawn replies.NoLink =
    (drawn ≡ []) × NothingChanges old new old_told new_told
ControlKeeps link old new old_told new_told false message drawn _ = ⊥
ControlKeeps link old new old_told new_told true message drawn reply =
    MessageKeeps link old new old_told new_told message drawn reply

-- the end of a link, by whether it is open
abbrev pub EndKeeps : ℕ → View → View → Told → Told → Bool → Reply → Type 0
EndKeeps link old new old_told new_told true replies.LinkEnded =
    Closes link old new × (new_told ≡ old_told)
EndKeeps link old new old_told new_told false replies.NoLink =
    NothingChanges old new old_told new_told
EndKeeps link old new old_told new_told _ _ = ⊥

-- a step that was given a reply; the end of the session or of the connection is given none
abbrev pub StepKeeps : View → View → Told → Told → Step → List TransactionId → Reply → Type 0
StepKeeps old new old_told new_told (steps.Frame frame) drawn reply =
    (drawn ≡ []) × FrameKeeps old new old_told new_told frame (txn frame) reply
StepKeeps old new old_told new_told (steps.Control link payload) drawn reply =
    ControlKeeps link old new old_told new_told (old.links link) (message_of payload) drawn reply
StepKeeps old new old_told new_told (steps.LinkEnd link) drawn reply =
    (drawn ≡ []) × EndKeeps link old new old_told new_told (old.links link) reply
StepKeeps old new old_told new_told _ drawn reply = ⊥

-- ---- an answer

-- by the answer: an unknown id is the fault of a frame under an id that isn't live; every other one
-- is a refusal below; an end is that of the step; out of memory comes of a step that takes some
abbrev pub AnswerKeeps : View → View → Told → Told → Step → Result (DrawnIds × Reply) StepError
    → Type 0
AnswerKeeps old new old_told new_told step (Ok out) =
    StepKeeps old new old_told new_told step out.0.ids out.1
AnswerKeeps old new old_told new_told step (Err (errors.Fault error handed)) =
    MatchBool (is_unknown error) (UnderDead old step × (handed ≡ 0))
    (Refused old old_told new_told step (step_hands old step) error handed)
AnswerKeeps old new old_told new_told step (Err (errors.Ended reason)) = ended_by step ≡ Some reason
AnswerKeeps old new old_told new_told step (Err (errors.Stopped code)) = ⊥
AnswerKeeps old new old_told new_told step (Err errors.NoMemory) = takes_memory old step ≡ true

-- a message whose commit was refused below has ended its id
abbrev pub CommitEnds : ℕ → View → View → Option ControlMessageBody → Type 0
CommitEnds link old new (Some (messages.Discharge discharge)) = Ends link old new discharge.txn_id
CommitEnds link old new _ = ⊥

-- work whose presumptive disposition was refused below is kept, and a plain frame changes nothing
abbrev pub RefusedFrameKeeps : View → View → Frame → Option TransactionId → Type 0
RefusedFrameKeeps old new frame None = SameView old new
RefusedFrameKeeps old new frame (Some id) = Arrives old new frame id

-- a step that a refusal below stopped
abbrev pub RefusedKeeps : View → View → Step → Type 0
RefusedKeeps old new (steps.Frame frame) = RefusedFrameKeeps old new frame (txn frame)
RefusedKeeps old new (steps.Control link payload) = CommitEnds link old new (message_of payload)
RefusedKeeps old new _ = ⊥

-- what is kept after an error: an id that isn't live, an end and out of memory leave all as it was
abbrev pub ErrorKeeps : View → View → Step → Result (DrawnIds × Reply) StepError → Type 0
ErrorKeeps old new step (Err (errors.Fault error handed)) =
    MatchBool (is_unknown error) (SameView old new) (RefusedKeeps old new step)
ErrorKeeps old new step (Err (errors.Ended reason)) = SameView old new
ErrorKeeps old new step (Err errors.NoMemory) = SameView old new
ErrorKeeps old new step _ = Unit {0}

-- what a step leaves: what is kept fits together, and the answer says what became of it
pub record Keeps (old new : Held) (old_told new_told : Told) (step : Step)
    (result : Result (DrawnIds × Reply) StepError) : Type 0 where
  pub fits : Fits new
  pub answer : AnswerKeeps (view_of_held old) (view_of_held new) old_told new_told step result
