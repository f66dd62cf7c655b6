-- The errors of a session by the names of a coordinator.
use Rattle.amqp_below_sessions.specs.declared.transacting.AllocTxnIdError.{AllocTxnIdError}
use Rattle.amqp_below_sessions.specs.declared.transacting.AllocTxnIdError.TheVariants as allocations
use Rattle.amqp_resource_coordinator.specs.declared.errors.CoordinatorError.{CoordinatorError}
use Rattle.amqp_resource_coordinator.specs.declared.errors.CoordinatorError.TheVariants as errors
use Rattle.amqp_resource_coordinator.specs.declared.errors.DischargeError.{DischargeError}
use Rattle.amqp_resource_coordinator.specs.declared.errors.DischargeError.TheVariants as discharges

-- no id was allocated
abbrev pub error_of_allocation : AllocTxnIdError → CoordinatorError
error_of_allocation allocations.NotImplemented = errors.AllocTxnIdNotImplemented
error_of_allocation (allocations.IdsRepeat drawn) = errors.IdsRepeat drawn
error_of_allocation allocations.NoMemory = errors.NoMemory

-- no transaction was discharged
abbrev pub error_of_discharge : DischargeError → CoordinatorError
error_of_discharge (discharges.TransactionError error) = errors.TransactionError error
error_of_discharge (discharges.Fault fault) = errors.Fault fault
