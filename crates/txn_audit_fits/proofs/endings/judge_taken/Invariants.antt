use Rattle.std.proofs.Common.{◌≡◌, ◌++◌, map, take}
use Rattle.txn_program_lines.specs.Cutting.{lines_of}
use Rattle.txn_audit_fits.specs.Fits.{taken_text}
use Rattle.txn_audit_fits.proofs.endings.judge_taken.Given as goal

abbrev pub invariant-loop-frame : goal.invariant-loop-frame
invariant-loop-frame l = lines_of l.lines ≡ map taken_text (take l.frame-index l.frames) ++ lines_of l.rest
