use Rattle.std.proofs.Common.{◌≡◌, take}
use Rattle.amqp_resource_record.specs.Entries.{declares}
use Rattle.amqp_resource_record.specs.Live.{last_place}
use Rattle.amqp_resource_record.proofs.live_ids.since.Given as goal

abbrev pub invariant-loop-place : goal.invariant-loop-place
invariant-loop-place l = l.last ≡ last_place (declares l.txn_id) (take l.place l.entries)
