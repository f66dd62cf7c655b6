use Rattle.amqp_txn_codec.proofs.Messages.{canon-spells}
use Rattle.amqp_txn_codec.proofs.laws.canonical_spelling_spells.Goals as goal

pub returns : goal.returns
returns c = canon-spells
