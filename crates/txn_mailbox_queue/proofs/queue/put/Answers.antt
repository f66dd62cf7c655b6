use Rattle.std.proofs.Common.{ap, sym, ◌∙◌}
use Rattle.txn_mailbox_queue.specs.Order.{may, put}
use Rattle.txn_mailbox_queue.proofs.Views.{puts}
use Rattle.txn_mailbox_queue.proofs.queue.put.Goals as goal

pub try_push_as-requires-clause-rule : goal.try_push_as-requires-clause-rule
try_push_as-requires-clause-rule g c = let same = c.loop.invariant.1 in
    puts _ _ _ _ _ (ap (λ v. may v c.args.item.sender) same ∙ c.requires.next.0) (c.requires.next.1 ∙ sym (ap (λ v. put v c.args.item.sender) same)) c.requires.room
