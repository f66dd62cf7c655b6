use Rattle.std.proofs.Common.{◌≡◌, ◌≤◌, length, drop}
use Rattle.txn_program_lines.specs.Cutting.{lines_of}
use Rattle.txn_audit_fits.proofs.judged_lines.lines_from.Given as goal

abbrev pub invariant-loop-rest : goal.invariant-loop-rest
invariant-loop-rest l = record {
  lines : lines_of l.rest ≡ drop l.passed (lines_of l.octets);
  few : l.passed ≤ l.count;
}

abbrev pub decreases-loop-rest : goal.decreases-loop-rest
decreases-loop-rest l = length l.rest
