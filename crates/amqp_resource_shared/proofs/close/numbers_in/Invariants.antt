use Rattle.std.proofs.Common.{◌≡◌, take}
use Rattle.amqp_resource_shared.specs.Receipts.{numbers_of}
use Rattle.amqp_resource_shared.proofs.close.numbers_in.Given as goal

abbrev pub invariant-loop-receipt : goal.invariant-loop-receipt
invariant-loop-receipt l = l.numbers.items ≡ numbers_of (take l.receipt-index l.receipts)
