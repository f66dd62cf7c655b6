use Rattle.std.proofs.Common.{ap, ◌∙◌}
use Rattle.txn_mailbox_queue.proofs.Views.{takes}
use Rattle.txn_mailbox_queue.proofs.queue.take.Goals as goal

pub try_pop_as-requires-clause-rule : goal.try_pop_as-requires-clause-rule
try_pop_as-requires-clause-rule g c = takes _ _ _ (ap (λ v. v.takes) c.loop.invariant.1 ∙ c.requires.1)
