-- Codes of replies: == is equality.
use Rattle.amqp_resource_shared.specs.contracts.reply_code.ReplyCodePartialEq.TheImpl as code_same
use Rattle.amqp_resource_shared.specs.contracts.reply_code.ReplyCode as code_type
use Rattle.amqp_resource_equality.proofs.Deciding.{IsEquality, enumeration, no_field, number, one_field}
use Rattle.amqp_resource_equality.proofs.Values.{amqp_error, octets, transaction_error}
use Rattle.amqp_resource_equality.proofs.Steps.{stop_code}

pub reply_code : IsEquality code_same.eq-value.it
reply_code = enumeration code_type.enum _ (one_field number, (one_field number, (one_field stop_code, (no_field, (no_field, (one_field amqp_error, (one_field octets, (one_field number, (one_field transaction_error, tt)))))))))
