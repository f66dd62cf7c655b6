use Rattle.amqp_txn_codec.proofs.Readings.{spelled-read, read-spells}
use Rattle.amqp_txn_codec.proofs.laws.spelled_messages_are_read.Goals as goal

pub returns : goal.returns
returns c = λ bytes m. (spelled-read bytes m, read-spells bytes m)
