use Rattle.std.proofs.Common.{◌≡◌, take}
use Rattle.amqp_resource_record.specs.Links.{attached_count}
use Rattle.amqp_resource_record.proofs.open_links.links_attached.Given as goal

abbrev pub invariant-loop-entry : goal.invariant-loop-entry
invariant-loop-entry l = l.attached ≡ attached_count (take l.entry-index l.entries)
