use Rattle.std.proofs.Common.{◌≡◌, take}
use Rattle.amqp_resource_record.specs.Work.{work}
use Rattle.amqp_resource_record.proofs.legal_records.work.Given as goal

abbrev pub invariant-loop-place : goal.invariant-loop-place
invariant-loop-place l = l.all ≡ work (take l.place l.entries)
