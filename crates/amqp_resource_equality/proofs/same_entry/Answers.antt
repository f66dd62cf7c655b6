use Rattle.std.proofs.lemmas.Bool.Decides.{Decides-at}
use Rattle.amqp_resource_equality.proofs.Steps.{entry}
use Rattle.amqp_resource_equality.proofs.same_entry.Goals as goal

pub returns : goal.returns
returns c = Decides-at _ _ c.eq.ensures (entry c.args.a.now c.args.b.now)
