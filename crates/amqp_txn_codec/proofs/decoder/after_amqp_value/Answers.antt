use Rattle.amqp_txn_codec.specs.Sections.{body}
use Rattle.amqp_txn_codec.proofs.decoder.after_amqp_value.Goals as goal

pub returns : goal.returns
unfolding body
returns c = c.after_descriptor.ensures
