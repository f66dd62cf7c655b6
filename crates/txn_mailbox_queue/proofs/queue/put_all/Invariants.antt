use Rattle.std.proofs.Common.{◌≡◌}
use Rattle.crossbeam_queue.specs.Passes.{view, IsPassOf}
use Rattle.txn_mailbox_queue.specs.Order.{sender_view}
use Rattle.txn_mailbox_queue.proofs.queue.put_all.Given as goal

abbrev pub invariant-loop-place : goal.invariant-loop-place
invariant-loop-place g l = IsPassOf l.queue l.pass × (view l.pass ≡ sender_view l.sender l.place)
