-- How the faults of a link are named where control messages are sent, and which error says that a
-- transaction was rolled back.
use Rattle.std.specs.Prelude.{Bool, true, false, Option, Some, None}
use Rattle.amqp_txn_types.specs.declared.delivery.Error.{Error}
use Rattle.amqp_txn_types.specs.declared.delivery.ErrorCondition.{ErrorCondition}
use Rattle.amqp_txn_types.specs.declared.delivery.ErrorCondition.TheVariants as conditions
use Rattle.amqp_txn_types.specs.declared.small.TransactionError.TheVariants as transaction_errors
use Rattle.amqp_links.specs.declared.errors.LinkStateError.{LinkStateError}
use Rattle.amqp_links.specs.declared.errors.LinkStateError.TheVariants as states
use Rattle.amqp_links.specs.declared.errors.IllegalLinkStateError.{IllegalLinkStateError}
use Rattle.amqp_links.specs.declared.errors.IllegalLinkStateError.TheVariants as faults
use Rattle.amqp_links.specs.declared.errors.SendError.{SendError}
use Rattle.amqp_links.specs.declared.errors.SendError.TheVariants as refusals
use Rattle.amqp_controller_calls.specs.declared.errors.ControllerSendError.{ControllerSendError}
use Rattle.amqp_controller_calls.specs.declared.errors.ControllerSendError.TheVariants as errors

-- why a message isn't sent, by the link's name for it
abbrev pub unsent : SendError → ControllerSendError
unsent (refusals.LinkStateError fault) = errors.LinkStateError fault
unsent (refusals.Detached fault) = errors.Detached fault
unsent refusals.NonTerminalDeliveryState = errors.NonTerminalDeliveryState
unsent refusals.IllegalDeliveryState = errors.IllegalDeliveryState
unsent (refusals.MessageSizeExceeded size) = errors.MessageSizeExceeded size
unsent refusals.MessageEncodeError = errors.MessageEncodeError
unsent refusals.NoMemory = errors.NoMemory

-- the state of a link of that name
abbrev pub link_state : IllegalLinkStateError → LinkStateError
link_state faults.IllegalState = states.IllegalState
link_state (faults.SessionStopped reason) = states.SessionStopped reason
link_state faults.NoMemory = states.NoMemory

-- the condition amqp:transaction:rollback (part 4, section 4.5.8); a symbol of that text that came
-- as a custom one isn't it
abbrev pub is_rollback_condition : ErrorCondition → Bool
is_rollback_condition (conditions.TransactionError transaction_errors.Rollback) = true
is_rollback_condition condition = false

-- the error of a rejection has that condition
abbrev pub names_rollback : Option Error → Bool
names_rollback None = false
names_rollback (Some error) = is_rollback_condition error.condition

-- the coordinator rejected the message, since it rolled the transaction back
abbrev pub is_rollback : ControllerSendError → Bool
is_rollback (errors.Rejected rejected) = names_rollback rejected.error
is_rollback error = false
