use Rattle.std.proofs.lemmas.Bool.Decides.{Decides-at}
use Rattle.amqp_resource_equality.proofs.Steps.{drawn}
use Rattle.amqp_resource_equality.proofs.same_drawn.Goals as goal

pub returns : goal.returns
returns c = Decides-at _ _ c.eq.ensures (drawn c.args.a.now c.args.b.now)
