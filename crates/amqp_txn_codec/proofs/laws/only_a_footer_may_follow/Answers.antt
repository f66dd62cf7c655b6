use Rattle.amqp_txn_codec.proofs.Wholes.{spelled-more}
use Rattle.amqp_txn_codec.proofs.laws.only_a_footer_may_follow.Goals as goal

pub returns : goal.returns
returns c = spelled-more
