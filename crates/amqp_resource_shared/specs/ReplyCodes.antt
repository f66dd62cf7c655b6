-- The kinds of replies.
use Rattle.std.specs.Prelude.{length}
use Rattle.amqp_resource_record.specs.declared.reply.Reply.{Reply}
use Rattle.amqp_resource_record.specs.declared.reply.Reply.TheVariants as replies
use Rattle.amqp_resource_record.specs.Stops.{fault_code}
use Rattle.amqp_resource_shared.specs.declared.reply_code.ReplyCode.{ReplyCode}
use Rattle.amqp_resource_shared.specs.declared.reply_code.ReplyCode.TheVariants as codes

-- the code of a reply: its kind, with the number of frames or echoes in place of them
abbrev pub code_of_reply : Reply → ReplyCode
code_of_reply (replies.Frames answers) = codes.Frames (length answers.given)
code_of_reply (replies.Attached link frames) = codes.Attached link
code_of_reply (replies.AttachRefused error) = codes.AttachRefused (fault_code error)
code_of_reply replies.LinkEnded = codes.LinkEnded
code_of_reply replies.NoLink = codes.NoLink
code_of_reply (replies.LinkClosed error) = codes.LinkClosed error
code_of_reply (replies.Declared id) = codes.Declared id
code_of_reply (replies.Accepted echoes) = codes.Accepted (length echoes)
code_of_reply (replies.Rejected error text) = codes.Rejected error
