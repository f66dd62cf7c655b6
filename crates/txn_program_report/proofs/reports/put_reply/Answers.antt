use Rattle.std.proofs.Common.{List, ℕ, ◌++◌, ap, sym, ◌∙◌}
use Rattle.std.specs.Prelude.{codes, string_bytes}
use Rattle.txn_program_report.proofs.Putting.{put_after}
use Rattle.txn_program_report.specs.Report.{reply_text, stop_word}
use Rattle.txn_program_report.proofs.reports.put_reply.Goals as goal

pub returns-in_ok-put-in-AttachRefused : goal.returns-in_ok-put-in-AttachRefused
unfolding reply_text
returns-in_ok-put-in-AttachRefused c =
    let word = c.stop_word.ensures ∙ ap stop_word c.code_of_fault.ensures in
    put_after c.put-in-AttachRefused-2.result (string_bytes c.args.out.now) (string_bytes c.put-in-AttachRefused.new.out) (string_bytes c.put-in-AttachRefused-2.new.out) (codes "attach-refused ") c.stop_word.result.now (reply_text c.args.reply.now)
    c.in_ok-put-in-AttachRefused.ensures c.put-in-AttachRefused-2.ensures (ap reply_text c.in-AttachRefused.is ∙ ap (λ (w : List ℕ). codes "attach-refused " ++ w) (sym word))

pub returns-in-LinkClosed : goal.returns-in-LinkClosed
unfolding reply_text
returns-in-LinkClosed c = rw c.in-LinkClosed.is c.put-in-LinkClosed.ensures
