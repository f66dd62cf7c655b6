use Rattle.std.proofs.Common.{map, ◌≡◌}
use Rattle.txn_broker_queues.specs.Given.{message_back}
use Rattle.txn_broker_queues.proofs.answering.answer_credit.Given as goal

abbrev pub invariant-loop-message : goal.invariant-loop-message
invariant-loop-message l = l.given ≡ map (message_back l.handle) l.yielded
