use Rattle.std.proofs.Common.{ap, ◌∙◌}
use Rattle.std.specs.Prelude.{position}
use Rattle.txn_broker_queues.proofs.Naming.{same_name}
use Rattle.txn_broker_queues.proofs.queues.Queues.find.Goals as goal

pub returns : goal.returns
returns c =
    c.copied.ensures ∙ c.get.ensures.value ∙ c.self.invariant.1 c.args.name.now
    ∙ ap (λ v. position (same_name c.args.name.now) v.names) c.self.view_is
