-- The ids that a coordinator holds, and what a declare and a discharge make of them.
use Rattle.std.specs.Prelude.{◌≡◌, ◌-◌, Bool, true, false, cond, Option, Some, None, Result, Ok, Err, List, length, slice_get}
use Rattle.std.specs.List.{list_any}
use Rattle.amqp_txn_types.specs.declared.id.TransactionId.{TransactionId}
use Rattle.amqp_txn_types.specs.declared.small.TransactionError.TheVariants as conditions
use Rattle.amqp_below_layer.specs.declared.answers.Answers.{Answers}
use Rattle.amqp_below_ids.specs.Drawn.{DrawnIds}
use Rattle.amqp_resource_coordinator.specs.declared.errors.CoordinatorError.{CoordinatorError}
use Rattle.amqp_resource_coordinator.specs.declared.errors.CoordinatorError.TheVariants as errors
use Rattle.amqp_txn_types.specs.Ids.{same_id}

-- the id is among those held
abbrev pub is_held : List TransactionId → TransactionId → Bool
is_held held id = list_any (same_id id) held

-- the id is that one
abbrev pub is_that : Option TransactionId → TransactionId → Bool
is_that None id = false
is_that (Some own) id = same_id own id

-- the id that was drawn last
abbrev pub is_last_drawn : List TransactionId → TransactionId → Bool
is_last_drawn ids id = is_that (slice_get ids (length ids - 1)) id

-- after a declare: an Ok adds the id that was drawn last, an Err leaves what was held
abbrev pub AfterDeclare : {E : Type 0} → List TransactionId → List TransactionId
    → Result DrawnIds E → Type 0
AfterDeclare old new (Ok drawn) =
    (t : TransactionId) → is_held new t ≡ cond (is_last_drawn drawn.ids t) true (is_held old t)
AfterDeclare old new (Err error) = new ≡ old

-- what was held, without that id
abbrev pub Without : List TransactionId → List TransactionId → TransactionId → Type 0
Without old new id =
    (t : TransactionId) → is_held new t ≡ cond (same_id id t) false (is_held old t)

-- after a discharge: its id is taken out by an Ok, and by the answer that it was rolled back where
-- a commit was asked for (4.5.8, Transaction Error); every other Err leaves what was held
abbrev pub AfterDischarge : List TransactionId → List TransactionId → TransactionId
    → Result (List Answers) CoordinatorError → Type 0
AfterDischarge old new id (Ok echoes) = Without old new id
AfterDischarge old new id (Err (errors.TransactionError conditions.Rollback)) = Without old new id
AfterDischarge old new id (Err error) = new ≡ old
