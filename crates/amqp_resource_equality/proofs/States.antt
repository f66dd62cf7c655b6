-- Errors, outcomes, delivery states and reasons of a stop: == is equality.
use Rattle.amqp_txn_types.specs.contracts.delivery.ErrorConditionPartialEq.TheImpl as condition_same
use Rattle.amqp_txn_types.specs.contracts.delivery.ErrorCondition as condition_type
use Rattle.amqp_txn_types.specs.contracts.delivery.ErrorPartialEq.TheImpl as error_same
use Rattle.amqp_txn_types.specs.contracts.delivery.Error as error_type
use Rattle.amqp_txn_types.specs.contracts.delivery.RejectedPartialEq.TheImpl as rejected_same
use Rattle.amqp_txn_types.specs.contracts.delivery.Rejected as rejected_type
use Rattle.amqp_txn_types.specs.contracts.delivery.ModifiedPartialEq.TheImpl as modified_same
use Rattle.amqp_txn_types.specs.contracts.delivery.Modified as modified_type
use Rattle.amqp_txn_types.specs.contracts.delivery.DeclaredPartialEq.TheImpl as declared_id_same
use Rattle.amqp_txn_types.specs.contracts.delivery.Declared as declared_id_type
use Rattle.amqp_txn_types.specs.contracts.delivery.OutcomePartialEq.TheImpl as outcome_same
use Rattle.amqp_txn_types.specs.contracts.delivery.Outcome as outcome_type
use Rattle.amqp_txn_types.specs.contracts.delivery.TransactionalStatePartialEq.TheImpl as transactional_same
use Rattle.amqp_txn_types.specs.contracts.delivery.TransactionalState as transactional_type
use Rattle.amqp_txn_types.specs.contracts.delivery.DeliveryStatePartialEq.TheImpl as state_same
use Rattle.amqp_txn_types.specs.contracts.delivery.DeliveryState as state_type
use Rattle.amqp_txn_types.specs.contracts.delivery.ConnectionStopReasonPartialEq.TheImpl as connection_stop_same
use Rattle.amqp_txn_types.specs.contracts.delivery.ConnectionStopReason as connection_stop_type
use Rattle.amqp_txn_types.specs.contracts.delivery.SessionStopReasonPartialEq.TheImpl as session_stop_same
use Rattle.amqp_txn_types.specs.contracts.delivery.SessionStopReason as session_stop_type
use Rattle.amqp_resource_equality.proofs.Deciding.{IsEquality, boolean, enumeration, no_field, number, one_field, option, pair, structure}
use Rattle.amqp_resource_equality.proofs.Values.{amqp_error, connection_error, fields, link_error, octets, session_error, transaction_error}

pub condition : IsEquality condition_same.eq-value.it
condition = enumeration condition_type.enum _ (one_field amqp_error, (one_field connection_error, (one_field session_error, (one_field link_error, (one_field transaction_error, (one_field octets, tt))))))

pub error : IsEquality error_same.eq-value.it
error = structure error_type.the_type (pair condition (pair (option octets) (one_field (option fields))))

pub rejected : IsEquality rejected_same.eq-value.it
rejected = structure rejected_type.the_type (one_field (option error))

pub modified : IsEquality modified_same.eq-value.it
modified = structure modified_type.the_type (pair (option boolean) (pair (option boolean) (one_field (option fields))))

pub declared_id : IsEquality declared_id_same.eq-value.it
declared_id = structure declared_id_type.the_type (one_field octets)

pub outcome : IsEquality outcome_same.eq-value.it
outcome = enumeration outcome_type.enum _ (no_field, (one_field rejected, (no_field, (one_field modified, (one_field declared_id, tt)))))

pub transactional : IsEquality transactional_same.eq-value.it
transactional = structure transactional_type.the_type (pair octets (one_field (option outcome)))

pub state : IsEquality state_same.eq-value.it
state = enumeration state_type.enum _ (pair number (one_field number), (no_field, (one_field rejected, (no_field, (one_field modified, (one_field declared_id, (one_field transactional, tt)))))))

pub connection_stop : IsEquality connection_stop_same.eq-value.it
connection_stop = enumeration connection_stop_type.enum _ (no_field, (one_field error, (no_field, (one_field error, tt))))

pub session_stop : IsEquality session_stop_same.eq-value.it
session_stop = enumeration session_stop_type.enum _ (no_field, (one_field error, (no_field, (one_field error, (one_field connection_stop, tt)))))
