use Rattle.std.proofs.Common.{take}
use Rattle.amqp_resource_record.specs.Legal.{IsLegal}
use Rattle.amqp_resource_record.proofs.legal_records.is_legal.Given as goal

abbrev pub invariant-loop-place : goal.invariant-loop-place
invariant-loop-place l = IsLegal (take l.place l.entries)
