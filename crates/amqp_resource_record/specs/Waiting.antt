-- A step that has no answer yet.
use Rattle.std.specs.Prelude.{[]}
use Rattle.amqp_resource_record.specs.declared.step.Step.{Step}
use Rattle.amqp_resource_record.specs.declared.reply.Reply.TheVariants as replies
use Rattle.amqp_resource_record.specs.declared.entry.Entry.{Entry}

-- its entry, which drew no ids; the reply stands for none
abbrev pub awaiting : Step → Entry
awaiting step =
    record { step = step; drawn = record { ids = []; spare = 0 }; reply = replies.NoLink }
