use Rattle.std.proofs.Common.{◌≡◌, false, take}
use Rattle.std.specs.List.{list_any}
use Rattle.amqp_resource_record.specs.Entries.{discharges}
use Rattle.amqp_resource_record.proofs.live_ids.has_discharge_of.Given as goal

abbrev pub invariant-loop-entry : goal.invariant-loop-entry
invariant-loop-entry l = list_any (discharges l.txn_id) (take l.entry-index l.entries) ≡ false
