use Rattle.std.proofs.lemmas.Bool.Decides.{Decides-at}
use Rattle.amqp_resource_equality.proofs.Deciding.{decides}
use Rattle.amqp_resource_equality.proofs.States.{error}
use Rattle.amqp_resource_equality.proofs.same_error.Goals as goal

pub returns : goal.returns
returns c = Decides-at _ _ c.eq.ensures (decides error _ _)
