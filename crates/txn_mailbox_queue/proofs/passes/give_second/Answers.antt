use Rattle.txn_mailbox_queue.proofs.Views.{forks, gives_second}
use Rattle.txn_mailbox_queue.proofs.passes.give_second.Goals as goal

pub another-requires-clause-rule : goal.another-requires-clause-rule
another-requires-clause-rule g c = forks _ 1 _ _ _ _ (gives_second _ c.requires.may)
