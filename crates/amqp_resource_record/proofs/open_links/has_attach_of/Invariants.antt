use Rattle.std.proofs.Common.{◌≡◌, false, take}
use Rattle.std.specs.List.{list_any}
use Rattle.amqp_resource_record.specs.Entries.{attaches}
use Rattle.amqp_resource_record.proofs.open_links.has_attach_of.Given as goal

abbrev pub invariant-loop-entry : goal.invariant-loop-entry
invariant-loop-entry l = list_any (attaches l.link) (take l.entry-index l.entries) ≡ false
