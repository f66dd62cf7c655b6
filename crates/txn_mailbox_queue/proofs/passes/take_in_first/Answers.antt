use Rattle.txn_mailbox_queue.proofs.Views.{gains_first, merges}
use Rattle.txn_mailbox_queue.proofs.passes.take_in_first.Goals as goal

pub absorb-requires-clause-rule : goal.absorb-requires-clause-rule
absorb-requires-clause-rule g c = merges _ 0 _ _ _ _ _ (gains_first _ _ c.requires.may)
