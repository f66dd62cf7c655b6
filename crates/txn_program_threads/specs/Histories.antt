-- What a history says of the workers that made it.
use Rattle.std.specs.Prelude.{ℕ, ◌≡◌, ◌≤◌, ◌⊎◌, Bool, true, false, Option, Some, None, List, slice_get}
use Rattle.std.specs.List.{count_by, list_any}
use Rattle.amqp_txn_types.specs.Counts.{Rose}
use Rattle.amqp_txn_types.specs.declared.delivery.SessionStopReason.{SessionStopReason}
use Rattle.amqp_txn_types.specs.declared.id.TransactionId.{TransactionId}
use Rattle.amqp_resource_held.specs.Views.{view_of_record}
use Rattle.amqp_resource_record.specs.declared.entry.Entry.{Entry}
use Rattle.amqp_resource_record.specs.declared.reply.Reply.{Reply}
use Rattle.amqp_resource_record.specs.declared.reply.Reply.TheVariants as replies
use Rattle.amqp_resource_record.specs.declared.step.Step.{Step}
use Rattle.amqp_resource_record.specs.declared.stop.StopCode.{StopCode}
use Rattle.amqp_resource_session.specs.Steps.{UnderDead, ended_by}
use Rattle.amqp_resource_shared.specs.ReplyCodes.{code_of_reply}
use Rattle.amqp_resource_shared.specs.declared.receipt.StoppedAt.{StoppedAt}
use Rattle.txn_program_threads.specs.Statuses.{refused_count}
use Rattle.txn_program_threads.specs.WorkerSteps.{IsWorkerStep, attaches_on}
use Rattle.txn_program_threads.specs.Works.{gives_id, gives_link}

-- an Attached reply of the history gave the link
abbrev pub GaveLink : List Entry → ℕ → Type 0
GaveLink history link =
    list_any (λ (entry : Entry). gives_link link (code_of_reply entry.reply)) history ≡ true

-- a Declared reply of the history gave the id
abbrev pub GaveId : List Entry → TransactionId → Type 0
GaveId history id =
    list_any (λ (entry : Entry). gives_id id (code_of_reply entry.reply)) history ≡ true

-- the step is one of these workers', on a link and under an id that the history gave
abbrev pub IsStepOfWorkers : List Entry → ℕ → ℕ → Step → Type 0
IsStepOfWorkers history workers rounds step =
    (worker : ℕ) × (1 ≤ worker) × (worker ≤ workers)
    × IsWorkerStep (GaveLink history) (GaveId history) worker rounds step

-- each step of the history is a worker's, with at most one attach on each handle, and each worker
-- stopped at its first refusal
pub record AreOfWorkers (workers rounds : ℕ) (history : List Entry) : Type 0 where
  pub steps : (number : ℕ) (entry : Entry) → slice_get history number ≡ Some entry
      → IsStepOfWorkers history workers rounds entry.step
  pub once : (handle : ℕ)
      → count_by (λ (entry : Entry). attaches_on handle entry.step) history ≤ 1
  pub refused : refused_count history ≤ workers

-- the reply is NoLink or Rejected
abbrev pub is_rejection : Reply → Bool
is_rejection replies.NoLink = true
is_rejection (replies.Rejected error text) = true
is_rejection _ = false

-- why a reply of the history is a refusal: a refusal below, or another reply is NoLink or Rejected
abbrev pub RefusedBy : ℕ → List Entry → Type 0
RefusedBy refusals history =
    Rose 0 refusals ⊎ (list_any (λ (entry : Entry). is_rejection entry.reply) history ≡ true)

-- the step asks for the session's end
abbrev pub AsksForEnd : Step → Type 0
AsksForEnd step = (reason : SessionStopReason) × (ended_by step ≡ Some reason)

-- why the session stopped there: a refusal below, or the step asks for an end or is a frame under
-- an id that isn't live
abbrev pub StopsBy : ℕ → List Entry → StoppedAt → Type 0
StopsBy refusals history at =
    Rose 0 refusals ⊎ (AsksForEnd at.step ⊎ UnderDead (view_of_record history) at.step)

-- the session stopped exactly where a step is kept at which it stopped, and for a cause
abbrev pub StopsAt : ℕ → List Entry → Option StopCode → Option StoppedAt → Type 0
StopsAt refusals history None None = Unit {0}
StopsAt refusals history (Some code) (Some at) = StopsBy refusals history at
StopsAt refusals history _ _ = ⊥
