-- A run step by step: the record that it has made so far, what each step leaves that was answered,
-- and what one leaves that stopped it.
use Rattle.std.specs.Prelude.{◌≡◌, ℕ, ◌+◌, ◌-◌, ◌^◌, ◌≤◌, ◌⊎◌, min, Bool, Option, Some, Result, Ok, Err, List}
use Rattle.amqp_below_ids.specs.Drawn.{DrawnIds}
use Rattle.amqp_below_ids.specs.Ids.{Drew}
use Rattle.amqp_resource_record.specs.declared.entry.Entry.{Entry}
use Rattle.amqp_resource_held.specs.declared.held.Held.{Held}
use Rattle.amqp_resource_record.specs.declared.reply.Reply.{Reply}
use Rattle.amqp_txn_types.specs.Counts.{Rose}
use Rattle.amqp_txn_types.specs.declared.delivery.SessionStopReason.{SessionStopReason}
use Rattle.amqp_resource_record.specs.declared.step.Step.{Step}
use Rattle.amqp_resource_record.specs.declared.stop.StepError.{StepError}
use Rattle.amqp_resource_record.specs.declared.stop.Stop.{Stop}
use Rattle.amqp_resource_record.specs.declared.stop.StopCode.{StopCode}
use Rattle.amqp_below_layer.specs.Told.{Told}
use Rattle.amqp_txn_types.specs.declared.id.TransactionId.{TransactionId}
use Rattle.amqp_resource_record.specs.Opened.{attach_refused_count, opens, refuses}
use Rattle.amqp_resource_record.specs.Entries.{drawn_of}
use Rattle.amqp_resource_record.specs.Work.{pairs}
use Rattle.amqp_txn_types.specs.Growing.{grown}
use Rattle.amqp_resource_record.specs.Vetoed.{veto_count, vetoes}
use Rattle.amqp_resource_record.specs.declared.stop.Stop.TheVariants as stops
use Rattle.amqp_resource_record.specs.declared.stop.StepError.TheVariants as errors
use Rattle.amqp_resource_held.specs.Held.{Stands}
use Rattle.amqp_resource_session.specs.Steps.{IfEnded, IfRefused, IfVeto, IsFirstStop, OnNoCall, StopsSurely, ended_by}
use Rattle.amqp_resource_session.specs.StepClauses.{StepRecords}
use Rattle.amqp_resource_session.specs.Session.{StopAfter}

-- a run so far: the session stands for its record, below took, opened, refused and vetoed what the
-- record says, after what it had before, each refusal and veto that was answered was counted, and
-- the source gave its ids
pub record Ran (old new : Told) (old_ids new_ids : ℕ → TransactionId) (held : Held)
    (entries : List Entry) : Type 0 where
  pub stands : Stands held entries
  pub taken : new.taken ≡ grown old.taken (pairs entries)
  pub opened : new.opened ≡ grown old.opened (opens entries)
  pub refused : new.refused ≡ grown old.refused (refuses entries)
  pub vetoed : new.reviews.vetoed ≡ grown old.reviews.vetoed (vetoes entries)
  pub rose : min (old.refusals + attach_refused_count entries) (2 ^ 64 - 1) ≤ new.refusals
  pub vetoes_rose : min (old.reviews.vetoes + veto_count entries) (2 ^ 64 - 1) ≤ new.reviews.vetoes
  pub later : old.refusals ≤ new.refusals
  pub counted : old.reviews.vetoes ≤ new.reviews.vetoes
  pub fixed : new.fixed ≡ old.fixed
  pub drew : Drew old_ids new_ids (drawn_of entries)

-- a step that was answered: its clauses by the record, with this reply
abbrev pub answered : DrawnIds → Reply → Result (DrawnIds × Reply) StepError
answered drawn reply = Ok (drawn, reply)

pub record Stepped (ids : ℕ → TransactionId) (held : Held) (old new : Told) (entries : List Entry)
    (step : Step) (drawn : DrawnIds) (reply : Reply) : Type 0 where
  pub by : StepRecords old new ids held entries step (answered drawn reply)
  pub veto : IfVeto reply (Rose old.reviews.vetoes new.reviews.vetoes)
  pub later : old.refusals ≤ new.refusals
  pub counted : old.reviews.vetoes ≤ new.reviews.vetoes
  pub fixed : new.fixed ≡ old.fixed

-- the stop and the number handed by its error
abbrev pub stop_by : StepError → Stop
stop_by (errors.Fault error handed) = stops.Fault error
stop_by (errors.Ended reason) = stops.Ended reason
stop_by (errors.Stopped code) = stops.Done
stop_by errors.NoMemory = stops.NoMemory

-- how many of its frames were handed
abbrev pub handed_of : StepError → ℕ
handed_of (errors.Fault error handed) = handed
handed_of _ = 0

-- a step that stopped the run: its clauses by the record, with this error
abbrev pub failed : StepError → Result (DrawnIds × Reply) StepError
failed error = Err error

pub record Broke (ids : ℕ → TransactionId) (sure : Bool) (held : Held) (old new : Told)
    (entries : List Entry) (step : Step) (error : StepError) (kept : Option StopCode) : Type 0 where
  pub by : StepRecords old new ids held entries step (failed error)
  pub first : IsFirstStop error
  pub surely : IfRefused (failed error) (λ e n. StopsSurely sure step n)
  pub counted : old.reviews.vetoes ≤ new.reviews.vetoes
  pub rose : IfRefused (failed error) (λ e n. Rose old.refusals new.refusals)
  pub ended : (reason : SessionStopReason) → ended_by step ≡ Some reason
      → (failed error ≡ Err (errors.Ended reason)) ⊎ (failed error ≡ Err errors.NoMemory)
  pub ended_only : IfEnded (failed error) (λ reason. ended_by step ≡ Some reason)
  pub own : OnNoCall step (failed error) (new ≡ old)
  pub later : old.refusals ≤ new.refusals
  pub fixed : new.fixed ≡ old.fixed
  pub stops : StopAfter (failed error) kept
