use Rattle.std.proofs.Common.{take, ◌++◌, ◌≡◌}
use Rattle.std.specs.Prelude.{string_bytes}
use Rattle.std.specs.List.{flat_map}
use Rattle.txn_broker_text.specs.Lines.{message_line}
use Rattle.txn_broker_text.proofs.messages.put_messages.Given as goal

abbrev pub invariant-loop-message : goal.invariant-loop-message
invariant-loop-message l = string_bytes l.out ≡ string_bytes l.fn.out ++ flat_map message_line (take l.message-index l.messages)
