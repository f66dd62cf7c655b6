use Rattle.amqp_txn_codec.proofs.Wholes.{one_message}
use Rattle.amqp_txn_codec.proofs.laws.octets_spell_one_message.Goals as goal

pub returns : goal.returns
returns c = one_message
