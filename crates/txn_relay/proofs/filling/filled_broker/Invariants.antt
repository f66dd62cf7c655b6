use Rattle.std.proofs.Common.{take, ◌≡◌}
use Rattle.txn_relay.specs.Filling.{Filled, numbered}
use Rattle.txn_relay.proofs.filling.filled_broker.Given as goal

abbrev pub invariant-loop-number : goal.invariant-loop-number
invariant-loop-number l = record {
  filled : Filled l.broker l.messages l.number;
  messages_are : l.messages ≡ numbered 0 (take l.number l.payloads);
}
