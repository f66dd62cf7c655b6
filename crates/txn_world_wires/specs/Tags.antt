-- What an item is, by its tag and step.
use Rattle.std.specs.Prelude.{List, [], ◌∷◌}
use Rattle.amqp_resource_record.specs.declared.entry.Entry.{Entry}
use Rattle.amqp_resource_record.specs.declared.step.Step.{Step}
use Rattle.amqp_resource_record.specs.declared.step.Step.TheVariants as steps
use Rattle.amqp_resource_record.specs.declared.reply.Reply.{Reply}
use Rattle.txn_parties.specs.BackWire.{asked_by, state_of}
use Rattle.txn_parties.specs.declared.item.Answered.{Answered}
use Rattle.txn_parties.specs.declared.item.Asked.TheVariants as asked
use Rattle.txn_parties.specs.declared.item.Item.{Item}
use Rattle.txn_parties.specs.declared.item.Item.TheVariants as items
use Rattle.txn_world_wires.specs.declared.tag.Tag.{Tag}
use Rattle.txn_world_wires.specs.declared.tag.Tag.TheVariants as tags

-- the item with this tag and step; of a frame the step has it
abbrev pub item_of : Tag → Step → Item
item_of (tags.Declare number link) step = items.Declare number link
item_of (tags.Discharge number link id rollback) step = items.Discharge number link id rollback
item_of (tags.LinkEnd link) step = items.LinkEnd link
item_of tags.Frame (steps.Frame frame) = items.Frame frame
item_of tags.Frame step = items.LinkEnd 0

-- the items with these tags, each with its entry
abbrev pub came_of : List Tag → List Entry → List (Item × Entry)
came_of [] list = []
came_of (tag ∷ more) [] = []
came_of (tag ∷ more) (entry ∷ list) = (item_of tag entry.step, entry) ∷ came_of more list

-- what is put back for the item with this tag
abbrev pub answers_by : Tag → Reply → List Answered
answers_by (tags.Declare number link) reply =
    record { txn = number; asked = asked.Declare; state = state_of reply } ∷ []
answers_by (tags.Discharge number link id rollback) reply =
    record { txn = number; asked = asked_by rollback; state = state_of reply } ∷ []
answers_by (tags.LinkEnd link) reply = []
answers_by tags.Frame reply = []
