use Rattle.std.proofs.lemmas.Bool.Decides.{Decides-at}
use Rattle.amqp_resource_equality.proofs.Deciding.{decides}
use Rattle.amqp_resource_equality.proofs.Steps.{step}
use Rattle.amqp_resource_equality.proofs.same_step.Goals as goal

pub returns : goal.returns
returns c = Decides-at _ _ c.eq.ensures (decides step _ _)
