use Rattle.std.proofs.lemmas.Bool.Decides.{Decides-at}
use Rattle.amqp_resource_equality.proofs.Deciding.{decides}
use Rattle.amqp_resource_equality.proofs.Steps.{fault}
use Rattle.amqp_resource_equality.proofs.same_fault.Goals as goal

pub returns : goal.returns
returns c = Decides-at _ _ c.eq.ensures (decides fault _ _)
