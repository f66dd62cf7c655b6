-- What a step makes over a layer that was told its answer and is used for this step alone.
use Rattle.std.specs.List.{zip}
use Rattle.std.specs.Prelude.{ℕ, ◌≡◌, ◌≤◌, ⊤, true, Option, Some, None, Result, Ok, Err, List, [], ◌∷◌, ◌++◌, ◌⊎◌, length, map, take, IfOk, IfErr, OnErr}
use Rattle.amqp_txn_types.specs.Frames.{txn}
use Rattle.amqp_txn_types.specs.Presumptive.{answered_under}
use Rattle.amqp_txn_types.specs.declared.id.TransactionId.{TransactionId}
use Rattle.amqp_txn_types.specs.declared.performatives.Frame.{Frame}
use Rattle.amqp_txn_types.specs.declared.performatives.Frame.TheVariants as frames
use Rattle.amqp_below_layer.specs.declared.inner_error.SessionInnerError.{SessionInnerError}
use Rattle.amqp_below_layer.specs.declared.inner_error.SessionInnerError.TheVariants as faults
use Rattle.amqp_below_layer.specs.declared.verdict.Verdict.TheVariants as verdicts
use Rattle.amqp_below_ids.specs.Drawn.{DrawnIds}
use Rattle.amqp_below_ids.specs.Ids.{Drew}
use Rattle.amqp_resource_held.specs.Held.{SameHeld}
use Rattle.amqp_resource_held.specs.Views.{view_of_record}
use Rattle.amqp_resource_record.specs.Answers.{Answer}
use Rattle.amqp_resource_record.specs.Hands.{hands}
use Rattle.amqp_resource_record.specs.Work.{given_by, handed_by}
use Rattle.amqp_resource_record.specs.declared.entry.Entry.{Entry}
use Rattle.amqp_resource_record.specs.declared.reply.Reply.{Reply}
use Rattle.amqp_resource_record.specs.declared.reply.Reply.TheVariants as replies
use Rattle.amqp_resource_record.specs.declared.step.Step.{Step}
use Rattle.amqp_resource_record.specs.declared.step.Step.TheVariants as steps
use Rattle.amqp_resource_record.specs.declared.stop.StepError.{StepError}
use Rattle.amqp_resource_record.specs.declared.stop.StepError.TheVariants as errors
use Rattle.amqp_resource_session.specs.Session.{StandsFor, StopAfter, below_of, held_of, stop_of}
use Rattle.amqp_resource_session.specs.Steps.{AnswersEnd, IfEnded, IfRefused, IfUnknown, IsFirstStop, MayFault, OnNoMemory, OnVeto, StopsSurely, UnderDead, ended_by, entry_of, fault_of}
use Rattle.amqp_resource_session.specs.declared.session.TxnSession.{TxnSession}
use Rattle.daxurbi_layer.specs.Answering.{given_count, refusal_told, unless_take, verdict_told}
use Rattle.daxurbi_layer.specs.declared.below_answer.BelowAnswer.{BelowAnswer}
use Rattle.daxurbi_layer.specs.declared.below_answer.BelowAnswer.TheVariants as answers
use Rattle.daxurbi_layer.specs.declared.told_layer.ToldLayer.{ToldLayer}
use Rattle.daxurbi_session.specs.SlotIds.{ids_of}
use Rattle.daxurbi_session.specs.declared.slot_ids.SlotIds.{SlotIds}

-- the frames that were taken, in order
abbrev pub frames_taken : List (Frame × List Frame) → List Frame
frames_taken taken = map (λ (pair : Frame × List Frame). pair.0) taken

-- what the layer is told for a step: a veto for a control message alone, and to take instead
abbrev pub told_for : Step → BelowAnswer → BelowAnswer
told_for (steps.Control link payload) answer = answer
told_for step answers.Veto = answers.Take
told_for step answer = answer

-- the step stopped the session, by how many of its frames were taken
abbrev pub IfStopped : Result (DrawnIds × Reply) StepError → (ℕ → Type 0) → Type 0
IfStopped (Err (errors.Fault error handed)) P = P handed
IfStopped (Err (errors.Ended reason)) P = P 0
IfStopped _ P = ⊤

-- the first of the frames that the step hands were taken, and no others
abbrev pub TookOnly : List Entry → Step → List (Frame × List Frame) → ℕ → Type 0
TookOnly entries step taken handed =
    (handed ≤ length (hands entries step))
    × (frames_taken taken ≡ take handed (hands entries step))

-- what work under an id is answered with at once
abbrev pub answered_for : Option TransactionId → Frame → List Frame
answered_for None frame = []
answered_for (Some id) frame = answered_under id frame

abbrev pub answered_with : Step → List Frame
answered_with (steps.Frame frame) = answered_for (txn frame) frame
answered_with _ = []

-- a disposition, which the layer below checks, with a fact
abbrev pub IfChecked : List Frame → Type 0 → Type 0
IfChecked (frames.Disposition disposition ∷ rest) P = P
IfChecked _ P = ⊤

-- the error is what a refusal that was told is given as
abbrev pub RefusedAsTold : BelowAnswer → SessionInnerError → Type 0
RefusedAsTold told error =
    (own : SessionInnerError) × (error ≡ fault_of own) × (refusal_told told ≡ Some own)

-- the error is what was told, or out of memory
abbrev pub AsTold : BelowAnswer → SessionInnerError → Type 0
AsTold told error = (refusal_told told ≡ Some error) ⊎ (error ≡ faults.NoMemory)

-- an attach opens a link where no refusal was told, and is refused with what was told
abbrev pub RepliesAsTold : BelowAnswer → Reply → Type 0
RepliesAsTold told (replies.Attached link given) = refusal_told told ≡ None
RepliesAsTold told (replies.AttachRefused error) = AsTold told error
RepliesAsTold told _ = ⊤

-- what a step makes, by a record that the session stood for before it
pub record RecordSays (entries : List Entry) (new : TxnSession ToldLayer) (step : Step)
    (told : BelowAnswer) (taken : List (Frame × List Frame))
    (result : Result (DrawnIds × Reply) StepError) : Type 0 where
  -- The reply is an answer of the record, and the session then stands for the record with it.
  pub answer : IfOk result (λ out. Answer entries step out.0.ids out.1)
  pub stands : IfOk result (λ out. StandsFor new (entries ++ entry_of step out.0 out.1 ∷ []))
  -- What was taken is what the record says the step hands, each frame with what the reply says was
  -- given back for it; or the first of it where it stopped.
  pub handed : IfOk result
      (λ out. taken ≡ zip (handed_by entries step out.1) (given_by step out.1))
  pub first : IfStopped result (λ handed. TookOnly entries step taken handed)
  -- An unknown id is the fault of a frame under an id that isn't live, and of nothing else; every
  -- other fault is that of a step that makes a call below.
  pub unknown : UnderDead (view_of_record entries) step
      → result ≡ Err (errors.Fault faults.UnknownTxnId 0)
  pub unknown_only : IfUnknown result (λ handed. UnderDead (view_of_record entries) step)
  pub refusal : IfRefused result
      (λ error handed. MayFault (view_of_record entries) step (hands entries step) error)
  -- The layer below refuses with what was told, or out of memory, and opens a link only where no
  -- refusal was told.
  pub replies : IfOk result (λ out. RepliesAsTold told out.1)
  pub refused : IfRefused result (λ error handed. AsTold told error)
  -- Out of memory leaves the session standing for what it stood for.
  pub memory : OnNoMemory result (StandsFor new entries)

-- what a step makes on a session that hadn't stopped
pub record ToldStep (old new : TxnSession ToldLayer) (old_ids new_ids : SlotIds) (step : Step)
    (told : BelowAnswer) (taken : List (Frame × List Frame))
    (result : Result (DrawnIds × Reply) StepError) : Type 0 where
  pub by_record : (r : List Entry) → StandsFor old r → RecordSays r new step told taken result
  -- It isn't answered that the session had stopped; an end is answered with its own value.
  pub runs : IfErr result IsFirstStop
  pub ended : AnswersEnd (ended_by step) result
  pub ended_only : IfEnded result (λ reason. ended_by step ≡ Some reason)
  -- A veto comes only where it was told, nothing is taken but where it was told to take, and no
  -- frame is given back. Of a commit at which it stopped nothing was taken.
  pub veto : OnVeto result (verdict_told told ≡ Ok verdicts.Veto)
  pub untaken : unless_take told (length taken) ≡ 0
  pub ungiven : given_count taken ≡ 0
  pub surely : IfRefused result (λ error handed. StopsSurely true step handed)
  -- Work that is answered with a disposition is answered where no refusal was told, and where the
  -- disposition is refused it stops with the error that was told.
  pub checked : IfOk result
      (λ out. IfChecked (answered_with step) (refusal_told told ≡ None))
  pub check_refused : IfRefused result
      (λ error handed. IfChecked (answered_with step) (RefusedAsTold told error))
  -- Out of memory leaves what the session keeps.
  pub memory : OnNoMemory result (SameHeld (held_of old) (held_of new))
  pub stops : StopAfter result (stop_of new)
  pub below : below_of new ≡ below_of old
  -- The ids drawn are the source's next ones, and every error leaves the source.
  pub drew : IfOk result (λ out. Drew (ids_of old_ids) (ids_of new_ids) out.0.ids)
  pub source : OnErr result (new_ids ≡ old_ids)
