use Rattle.std.proofs.Common.{take}
use Rattle.amqp_resource_shared.specs.Receipts.{EachOfEntry}
use Rattle.amqp_resource_shared.proofs.close.first_different.Given as goal

abbrev pub invariant-loop-place : goal.invariant-loop-place
invariant-loop-place l = EachOfEntry l.entries (take l.place l.receipts)
