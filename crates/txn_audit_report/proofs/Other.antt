-- Lines of a report that don't show a frame that was given back.
use Rattle.std.proofs.Common.{◌≡◌, true, false, ◌++◌, refl}
use Rattle.std.specs.Prelude.{codes}
use Rattle.amqp_resource_record.specs.declared.stop.StopCode.{StopCode}
use Rattle.amqp_resource_record.specs.declared.reply.Reply.{Reply}
use Rattle.amqp_resource_record.specs.declared.reply.Reply.TheVariants as replies
use Rattle.txn_program_report.specs.Report.{reply_text, stop_word}
use Rattle.txn_audit_report.specs.OutLines.{is_out_line, is_stop_line, out_line, out_words}

pub stop-no_out : (code : StopCode) → is_out_line (codes "stop " ++ stop_word code) ≡ false
unfolding out_line out_words
stop-no_out code = refl

pub reply-no_out : (reply : Reply) → is_out_line (reply_text reply) ≡ false
unfolding out_line out_words reply_text
reply-no_out (replies.Frames answers) = refl
reply-no_out (replies.Attached link frames) = refl
reply-no_out (replies.AttachRefused error) = refl
reply-no_out replies.LinkEnded = refl
reply-no_out replies.NoLink = refl
reply-no_out (replies.LinkClosed error) = refl
reply-no_out (replies.Declared id) = refl
reply-no_out (replies.Accepted echoes) = refl
reply-no_out (replies.Rejected error text) = refl

pub stop-is_stop : (code : StopCode) → is_stop_line (codes "stop " ++ stop_word code) ≡ true
unfolding is_stop_line
stop-is_stop code = refl

pub reply-no_stop : (reply : Reply) → is_stop_line (reply_text reply) ≡ false
unfolding is_stop_line reply_text
reply-no_stop (replies.Frames answers) = refl
reply-no_stop (replies.Attached link frames) = refl
reply-no_stop (replies.AttachRefused error) = refl
reply-no_stop replies.LinkEnded = refl
reply-no_stop replies.NoLink = refl
reply-no_stop (replies.LinkClosed error) = refl
reply-no_stop (replies.Declared id) = refl
reply-no_stop (replies.Accepted echoes) = refl
reply-no_stop (replies.Rejected error text) = refl
