use Rattle.txn_mailbox_queue.proofs.Views.{gains_second, merges}
use Rattle.txn_mailbox_queue.proofs.passes.take_in_second.Goals as goal

pub absorb-requires-clause-rule : goal.absorb-requires-clause-rule
absorb-requires-clause-rule g c = merges _ 1 _ _ _ _ _ (gains_second _ _ c.requires.may)
