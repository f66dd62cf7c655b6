use Rattle.std.proofs.Common.{length}
use Rattle.txn_program_lines.specs.Cutting.{lines_of}
use Rattle.txn_audit_fits.proofs.Lines.{Front}
use Rattle.txn_audit_fits.proofs.outs.lines_after_any.Given as goal

abbrev pub invariant-loop-line : goal.invariant-loop-line
invariant-loop-line l = Front (lines_of l.lines) (lines_of l.rest)

abbrev pub decreases-loop-line : goal.decreases-loop-line
decreases-loop-line l = length l.rest
