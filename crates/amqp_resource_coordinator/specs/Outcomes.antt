-- The outcome of a control message as a delivery state.
use Rattle.amqp_txn_types.specs.declared.delivery.DeliveryState.{DeliveryState}
use Rattle.amqp_txn_types.specs.declared.delivery.DeliveryState.TheVariants as states
use Rattle.amqp_resource_coordinator.specs.declared.outcomes.SuccessfulOutcome.{SuccessfulOutcome}
use Rattle.amqp_resource_coordinator.specs.declared.outcomes.SuccessfulOutcome.TheVariants as successes

-- the state of that name
abbrev pub state_of_success : SuccessfulOutcome → DeliveryState
state_of_success (successes.Declared declared) = states.Declared declared
state_of_success (successes.Accepted accepted) = states.Accepted
