use Rattle.txn_mailbox_queue.proofs.Views.{totals}
use Rattle.txn_mailbox_queue.proofs.passes.count_items.Goals as goal

pub learn_as-requires-clause-rule : goal.learn_as-requires-clause-rule
learn_as-requires-clause-rule g c = totals _ _ _ c.requires.first c.requires.second c.requires.takes
