use Rattle.std.proofs.Common.{refl}
use Rattle.std.specs.Prelude.{codes, string_bytes}
use Rattle.amqp_txn_types.specs.declared.performatives.Frame.TheVariants as frames
use Rattle.txn_program_report.proofs.Putting.{put_after}
use Rattle.txn_program_report.specs.Report.{disposition_words, frame_text}
use Rattle.txn_program_report.proofs.frame_text.put_disposition.Goals as goal

pub returns : goal.returns
unfolding frame_text
returns c =
    put_after c.put_disposition_words.result (string_bytes c.args.out.now) (string_bytes c.put.new.out) (string_bytes c.put_disposition_words.new.out) (codes "disposition") (disposition_words c.args.disposition.now) (frame_text (frames.Disposition c.args.disposition.now))
    c.in_ok-put.ensures c.put_disposition_words.ensures refl
