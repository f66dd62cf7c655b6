use Rattle.amqp_txn_codec.specs.Sections.{footer}
use Rattle.amqp_txn_codec.proofs.Bodies.{end-is, end-only}
use Rattle.amqp_txn_codec.proofs.decoder.is_end.Goals as goal

pub returns : goal.returns
unfolding footer
returns c = (λ e. end-is _ _ c.after_optional.ensures (c.same_octets.ensures.0 e), λ s. c.same_octets.ensures.1 (end-only _ _ c.after_optional.ensures s))
