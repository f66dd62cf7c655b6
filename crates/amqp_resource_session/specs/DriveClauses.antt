-- What driving a list of steps gives.
use Rattle.std.specs.Prelude.{ℕ, ◌≡◌, ◌≤◌, ◌↔◌, Bool, Option, Some, List, length, take}
use Rattle.amqp_below_ids.specs.Ids.{Drew}
use Rattle.amqp_resource_record.specs.Legal.{IsLegal}
use Rattle.amqp_txn_types.specs.declared.delivery.SessionStopReason.{SessionStopReason}
use Rattle.amqp_resource_record.specs.declared.step.Step.{Step}
use Rattle.amqp_below_layer.specs.Told.{Told}
use Rattle.amqp_txn_types.specs.declared.id.TransactionId.{TransactionId}
use Rattle.amqp_resource_session.specs.declared.session.TxnSession.{TxnSession}
use Rattle.amqp_resource_record.specs.Entries.{drawn_of, steps_of}
use Rattle.amqp_txn_types.specs.Growing.{grown}
use Rattle.amqp_resource_record.specs.Opened.{opens}
use Rattle.amqp_resource_record.specs.Vetoed.{vetoes}
use Rattle.amqp_below_layer.specs.declared.inner_error.SessionInnerError.TheVariants as faults
use Rattle.amqp_resource_record.specs.declared.stop.Driven.{Driven}
use Rattle.amqp_resource_record.specs.declared.stop.Stop.TheVariants as stops
use Rattle.amqp_resource_session.specs.Drive.{NextStep, RunLeaves, RunRefused, RunRose, RunStopsSurely, RunTook, RunVetoed, StopCause, StopsWith}
use Rattle.amqp_resource_session.specs.Steps.{UnderDead, ended_by}
use Rattle.amqp_resource_held.specs.Views.{view_of_record}
use Rattle.amqp_resource_session.specs.Session.{FitsTogether, told_of}

-- the clauses of a run of these steps, each by its name
pub record DriveSays {S G : Type 0} (told : S → Told) (sure : Bool) (next : G → ℕ → TransactionId)
    (starts : G → Option (ℕ → TransactionId)) (old new : TxnSession S) (old_source new_source : G)
    (all : List Step) (result : Driven) : Type 0 where
  -- The record: each entry is an answer of those before it, to the first of the steps, with the
  -- source's next ids.
  pub legal : IsLegal result.entries
  pub at : result.at ≡ length result.entries
  pub steps : steps_of result.entries ≡ take result.at all
  pub drew : Drew (next old_source) (next new_source) (drawn_of result.entries)
  pub start : starts new_source ≡ starts old_source
  -- The stop: Done exactly where every step has its entry, and each other one by the next step.
  pub done : (result.stop ≡ stops.Done) ↔ (steps_of result.entries ≡ all)
  pub cause : StopCause all result.entries result.stop
  pub unknown : NextStep all result.entries (λ s. UnderDead (view_of_record result.entries) s) →
      result.stop ≡ stops.Fault faults.UnknownTxnId
  pub ended : (reason : SessionStopReason) → NextStep all result.entries
      (λ s. ended_by s ≡ Some reason) →
      StopsWith result.stop (stops.Ended reason)
  -- What below took, opened, refused and vetoed, after what it had before.
  pub taken : RunTook (told_of told old).taken (told_of told new).taken
      all result.entries result.stop result.handed
  pub opened : (told_of told new).opened
      ≡ grown (told_of told old).opened (opens result.entries)
  pub refused : RunRefused (told_of told old).refused
      (told_of told new).refused
      all result.entries result.stop result.handed
  pub vetoed : (told_of told new).reviews.vetoed
      ≡ grown (told_of told old).reviews.vetoed (vetoes result.entries)
  -- Over a sure layer no frame of a commit was taken that ran out of memory.
  pub surely : RunStopsSurely sure all result.entries result.stop result.handed
  -- Each refusal and each veto that was answered was counted, as long as the count can rise.
  pub rose : RunRose (told_of told old).refusals
      (told_of told new).refusals
      result.entries result.stop
  pub vetoes_rose : RunVetoed (told_of told old).reviews.vetoes (told_of told new).reviews.vetoes
      result.entries
  pub later : (told_of told old).refusals ≤ (told_of told new).refusals
  pub counted : (told_of told old).reviews.vetoes ≤ (told_of told new).reviews.vetoes
  pub fixed : (told_of told new).fixed ≡ (told_of told old).fixed
  -- The session stands for the record, or keeps the code of its stop, and what it keeps fits
  -- together.
  pub leaves : RunLeaves new result.entries result.stop
  pub fits : FitsTogether new
