use Rattle.std.proofs.Common.{◌≡◌, false, take}
use Rattle.std.specs.List.{list_any}
use Rattle.amqp_resource_record.specs.Entries.{closes}
use Rattle.amqp_resource_record.proofs.open_links.has_close_of.Given as goal

abbrev pub invariant-loop-entry : goal.invariant-loop-entry
invariant-loop-entry l = list_any (closes l.link) (take l.entry-index l.entries) ≡ false
