-- Roles, modes, conditions, handles, octets and fields: == is equality.
use Rattle.std.proofs.Common.{◌≡◌, nat_eq, refl}
use Rattle.std.specs.Cmp.Lexicographic.{pointwise}
use Rattle.amqp_txn_types.specs.contracts.small.RolePartialEq.TheImpl as role_same
use Rattle.amqp_txn_types.specs.contracts.small.Role as role_type
use Rattle.amqp_txn_types.specs.contracts.small.SenderSettleModePartialEq.TheImpl as sender_mode_same
use Rattle.amqp_txn_types.specs.contracts.small.SenderSettleMode as sender_mode_type
use Rattle.amqp_txn_types.specs.contracts.small.ReceiverSettleModePartialEq.TheImpl as receiver_mode_same
use Rattle.amqp_txn_types.specs.contracts.small.ReceiverSettleMode as receiver_mode_type
use Rattle.amqp_txn_types.specs.contracts.small.AmqpErrorPartialEq.TheImpl as amqp_error_same
use Rattle.amqp_txn_types.specs.contracts.small.AmqpError as amqp_error_type
use Rattle.amqp_txn_types.specs.contracts.small.ConnectionErrorPartialEq.TheImpl as connection_error_same
use Rattle.amqp_txn_types.specs.contracts.small.ConnectionError as connection_error_type
use Rattle.amqp_txn_types.specs.contracts.small.SessionErrorPartialEq.TheImpl as session_error_same
use Rattle.amqp_txn_types.specs.contracts.small.SessionError as session_error_type
use Rattle.amqp_txn_types.specs.contracts.small.LinkErrorPartialEq.TheImpl as link_error_same
use Rattle.amqp_txn_types.specs.declared.small.LinkError.{LinkError}
use Rattle.amqp_txn_types.specs.declared.small.LinkError.TheVariants as link_errors
use Rattle.amqp_txn_types.specs.contracts.small.TransactionErrorPartialEq.TheImpl as transaction_error_same
use Rattle.amqp_txn_types.specs.contracts.small.TransactionError as transaction_error_type
use Rattle.amqp_txn_types.specs.contracts.small.HandlePartialEq.TheImpl as handle_same
use Rattle.amqp_txn_types.specs.contracts.small.Handle as handle_type
use Rattle.amqp_txn_types.specs.contracts.fields.ValuePartialEq.TheImpl as value_same
use Rattle.amqp_txn_types.specs.contracts.fields.Value as value_type
use Rattle.amqp_txn_types.specs.contracts.fields.FieldsPartialEq.TheImpl as fields_same
use Rattle.amqp_resource_equality.proofs.Deciding.{IsEquality, bare, boolean, enumeration, list, no_field, number, one_field, pair, structure}

pub role : IsEquality role_same.eq-value.it
role = bare role_type.the_type tt

pub sender_mode : IsEquality sender_mode_same.eq-value.it
sender_mode = bare sender_mode_type.the_type tt

pub receiver_mode : IsEquality receiver_mode_same.eq-value.it
receiver_mode = bare receiver_mode_type.the_type tt

pub amqp_error : IsEquality amqp_error_same.eq-value.it
amqp_error = bare amqp_error_type.the_type tt

pub connection_error : IsEquality connection_error_same.eq-value.it
connection_error = bare connection_error_type.the_type tt

pub session_error : IsEquality session_error_same.eq-value.it
session_error = bare session_error_type.the_type tt

one_link_error : (x y : LinkError) → x ≡ y
one_link_error link_errors.TransferLimitExceeded link_errors.TransferLimitExceeded = refl

pub link_error : IsEquality link_error_same.eq-value.it
link_error = record { one = λ x y h. one_link_error x y; same = λ x. refl }

pub transaction_error : IsEquality transaction_error_same.eq-value.it
transaction_error = bare transaction_error_type.the_type tt

pub handle : IsEquality handle_same.eq-value.it
handle = structure handle_type.the_type (one_field number)

-- octets, and what is seen as octets: text, symbols, binaries, payloads and ids
pub octets : IsEquality (pointwise nat_eq)
octets = list number

pub symbols : IsEquality (pointwise (pointwise nat_eq))
symbols = list octets

pub value : IsEquality value_same.eq-value.it
value = enumeration value_type.enum _ (no_field, (one_field boolean, (one_field number, (one_field number, (one_field octets, (one_field octets, (one_field octets, tt)))))))

-- fields, by their pairs in order
pub fields : IsEquality fields_same.eq-value.it
fields = list (pair octets value)
