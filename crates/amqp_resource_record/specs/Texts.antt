-- The text beside a rejected control message.
use Rattle.std.specs.Prelude.{ℕ, List, Option, Some, None, codes}
use Rattle.amqp_resource_record.specs.declared.reply.RejectText.{RejectText}
use Rattle.amqp_resource_record.specs.declared.reply.RejectText.TheVariants as texts

-- the octets of the text, where there is one
abbrev pub text_of : RejectText → Option (List ℕ)
text_of texts.Absent = None
text_of texts.GlobalId = Some (codes "Global transaction ID is not implemented")
text_of texts.IdsRepeat = Some (codes "No unused transaction ID was drawn")
