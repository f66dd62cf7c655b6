-- What a coordinator answers to a declare. Part 4 of the standard (OASIS AMQP 1.0), sections 4.2
-- (declaring a transaction) and 4.5.2 (declare).
use Rattle.std.specs.Prelude.{ℕ, ◌≡◌, ◌⊎◌, Option, Some, None, Result, Ok, Err}
use Rattle.amqp_txn_types.specs.declared.id.TransactionId.{TransactionId}
use Rattle.amqp_txn_codec.specs.declared.message.Declare.{Declare}
use Rattle.amqp_below_sessions.specs.declared.transacting.AllocTxnIdError.{AllocTxnIdError}
use Rattle.amqp_below_ids.specs.Drawn.{DrawnIds}
use Rattle.amqp_below_layer.specs.Told.{Checks, Told}
use Rattle.amqp_below_sessions.specs.Transacting.{Allocates}
use Rattle.amqp_resource_coordinator.specs.declared.errors.CoordinatorError.{CoordinatorError}
use Rattle.amqp_resource_coordinator.specs.declared.errors.CoordinatorError.TheVariants as errors
use Rattle.amqp_resource_coordinator.specs.Errors.{error_of_allocation}

-- the session was asked for an id and answered that, with all that it says of such an answer
pub record Allocation {H : Type 0}
    (allocate_gives : H → H → (ℕ → TransactionId) → (ℕ → TransactionId)
    → Result DrawnIds AllocTxnIdError → Type 0)
    (told : H → Told) (old new : H) (before after : ℕ → TransactionId)
    (answer : Result DrawnIds AllocTxnIdError) : Type 0 where
  pub gives : allocate_gives old new before after answer
  pub drew : Allocates before after answer
  pub checks : Checks (told old) (told new) answer

-- the session's answer as the coordinator's
abbrev pub declared_by : Result DrawnIds AllocTxnIdError → Result DrawnIds CoordinatorError
declared_by (Ok drawn) = Ok drawn
declared_by (Err error) = Err (error_of_allocation error)

-- by the global id: GlobalIdNotImplemented where there is one; else what the session answered, or
-- NoMemory for the coordinator's own out of memory, before the session was asked
abbrev pub AnswersByGlobalId : Option TransactionId → (Result DrawnIds AllocTxnIdError → Type 0)
    → Type 0 → Result DrawnIds CoordinatorError → Type 0
AnswersByGlobalId (Some global) Asked Unasked result =
    (result ≡ Err errors.GlobalIdNotImplemented) × Unasked
AnswersByGlobalId None Asked Unasked result =
    ((answer : Result DrawnIds AllocTxnIdError) × Asked answer × (result ≡ declared_by answer))
    ⊎ ((result ≡ Err errors.NoMemory) × Unasked)

-- the answer to a declare
abbrev pub AnswersDeclare : Declare → (Result DrawnIds AllocTxnIdError → Type 0) → Type 0
    → Result DrawnIds CoordinatorError → Type 0
AnswersDeclare declare Asked Unasked result =
    AnswersByGlobalId declare.global_id Asked Unasked result
