use Rattle.std.proofs.lemmas.Bool.Decides.{Decides-at}
use Rattle.amqp_resource_equality.proofs.Deciding.{decides}
use Rattle.amqp_resource_shared.proofs.Codes.{reply_code}
use Rattle.amqp_resource_shared.proofs.reply_code.same_code.Goals as goal

pub returns : goal.returns
returns c = Decides-at _ _ c.eq.ensures (decides reply_code _ _)
