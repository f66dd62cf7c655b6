-- What a step leaves, as each function of a step says it in one clause.
use Rattle.std.specs.Prelude.{ℕ, Bool, ◌≡◌, ◌≤◌, Option, Result, Ok, List, IfOk, OnErr}
use Rattle.amqp_below_ids.specs.Drawn.{DrawnIds}
use Rattle.amqp_below_ids.specs.Ids.{Drew}
use Rattle.amqp_txn_types.specs.declared.performatives.Frame.{Frame}
use Rattle.amqp_resource_held.specs.declared.held.Held.{Held}
use Rattle.amqp_txn_types.specs.declared.items.NoMemory.{NoMemory}
use Rattle.amqp_resource_record.specs.declared.reply.Reply.{Reply}
use Rattle.amqp_resource_record.specs.declared.step.Step.{Step}
use Rattle.amqp_resource_record.specs.declared.stop.StepError.{StepError}
use Rattle.amqp_below_layer.specs.Told.{Told}
use Rattle.amqp_txn_types.specs.declared.id.TransactionId.{TransactionId}
use Rattle.amqp_below_layer.specs.declared.verdict.Verdict.{Verdict}
use Rattle.amqp_txn_types.specs.declared.performatives.Disposition.{Disposition}
use Rattle.amqp_below_layer.specs.declared.inner_error.SessionInnerError.{SessionInnerError}
use Rattle.amqp_below_layer.specs.declared.verdict.Verdict.TheVariants as verdicts
use Rattle.amqp_resource_held.specs.Held.{SameHeld}
use Rattle.amqp_resource_held.specs.Changes.{Fits}
use Rattle.amqp_resource_session.specs.Keeping.{ErrorKeeps, Keeps}
use Rattle.amqp_resource_session.specs.Steps.{AnswersEnd, ChecksWork, IfRefused, OnNoCall, OnNoMemory, OnVeto, RepliesToNoFrame, StepCause, StopsSurely, ended_by, step_hands}
use Rattle.amqp_resource_held.specs.Views.{view_of_held}

-- a step over a layer that tells this, is sure or not, and reviews and checks so
pub record StepLeaves {S : Type 0} (told : S → Told) (sure : Bool)
    (reviews : S → S → List Frame → Result Verdict NoMemory → Type 0)
    (checks : S → S → Disposition → Result Unit SessionInnerError → Type 0) (old new : Held)
    (old_below new_below : S) (step : Step) (result : Result (DrawnIds × Reply) StepError)
    : Type 0 where
  -- What is kept, and the answer by it, also after an error; when each answer may come; and an end
  -- is answered with its own value.
  pub keeps : Fits old → Keeps old new (told old_below) (told new_below) step result
  pub left : ErrorKeeps (view_of_held old) (view_of_held new) step result
  pub cause : StepCause (told old_below) (told new_below) step result
  pub surely : IfRefused result (λ error handed. StopsSurely sure step handed)
  pub ended : AnswersEnd (ended_by step) result
  -- Out of memory changes nothing, and such an answer makes no call below.
  pub same : OnNoMemory result (SameHeld old new)
  pub untouched : OnNoCall step result (new_below ≡ old_below)
  -- A vetoed commit leaves below what the review left: no call comes after it.
  pub reviewed : OnVeto result
      (reviews old_below new_below (step_hands (view_of_held old) step) (Ok verdicts.Veto))
  -- Work has the disposition checked that it is answered with, and makes no other call.
  pub checked : ChecksWork checks old_below new_below step result
  -- What no step changes below, and the counts that never fall.
  pub fixed : (told new_below).fixed ≡ (told old_below).fixed
  pub later : (told old_below).refusals ≤ (told new_below).refusals
  pub counted : (told old_below).reviews.vetoes ≤ (told new_below).reviews.vetoes

-- a step that makes no call below, whatever the layer there tells
pub record LeavesHere (old new : Held) (step : Step) (result : Result (DrawnIds × Reply) StepError)
    : Type 0 where
  pub keeps : (told : Told) → Fits old → Keeps old new told told step result
  pub left : ErrorKeeps (view_of_held old) (view_of_held new) step result
  pub unanswered : RepliesToNoFrame result step
  pub cause : (told : Told) → StepCause told told step result
  pub ended : AnswersEnd (ended_by step) result
  pub same : OnNoMemory result (SameHeld old new)

-- the ids that a step drew are the source's next ones, and every error leaves the source
pub record StepDraws {G : Type 0} (next : G → ℕ → TransactionId)
    (starts : G → Option (ℕ → TransactionId)) (old_source new_source : G)
    (result : Result (DrawnIds × Reply) StepError) : Type 0 where
  pub drew : IfOk result (λ out. Drew (next old_source) (next new_source) out.0.ids)
  pub source : OnErr result (new_source ≡ old_source)
  pub start : starts new_source ≡ starts old_source
