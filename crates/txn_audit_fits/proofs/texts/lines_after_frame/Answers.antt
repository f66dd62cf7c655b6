use Rattle.std.proofs.Common.{◌≡◌, ◌∷◌, ◌++◌, [], sym, ◌∙◌}
use Rattle.txn_program_report.specs.Report.{frame_text}
use Rattle.txn_audit_fits.proofs.Lines.{no_lines}
use Rattle.txn_audit_fits.proofs.texts.lines_after_frame.Goals as goal

pub returns-then-is_empty : goal.returns-then-is_empty
returns-then-is_empty c = λ after e. let z : [] ≡ (c.args.word.now ++ frame_text c.args.frame.now) ∷ after = sym (no_lines c.args.lines.now (sym c.is_empty.ensures ∙ c.if-is_empty.true)) ∙ e in cc z
