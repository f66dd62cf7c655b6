use Rattle.std.proofs.Common.{◌==◌}
use Rattle.txn_program_lines.proofs.PieceLemmas.{ended-slice_split}
use Rattle.txn_program_lines.proofs.line_words.end_at.Goals as goal

pub returns-in-Some : goal.returns-in-Some
returns-in-Some c = rw c.in-Some.is (ended-slice_split (λ b. b == 32) c.in-Some.field-0.now)
