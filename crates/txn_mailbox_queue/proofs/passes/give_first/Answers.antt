use Rattle.txn_mailbox_queue.proofs.Views.{forks, gives_first}
use Rattle.txn_mailbox_queue.proofs.passes.give_first.Goals as goal

pub another-requires-clause-rule : goal.another-requires-clause-rule
another-requires-clause-rule g c = forks _ 0 _ _ _ _ (gives_first _ c.requires.may)
