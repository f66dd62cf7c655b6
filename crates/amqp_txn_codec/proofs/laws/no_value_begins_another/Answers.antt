use Rattle.amqp_txn_codec.proofs.Values.{one_front}
use Rattle.amqp_txn_codec.proofs.laws.no_value_begins_another.Goals as goal

pub returns : goal.returns
returns c = one_front
