use Rattle.std.proofs.Common.{◌≡◌, ◌+◌, ◌≤◌, length}
use Rattle.txn_program_lines.specs.Cutting.{lines_of}
use Rattle.txn_program_lines.specs.Numbered.{lines_after}
use Rattle.txn_program_lines.proofs.numbered_lines.read_lines.Given as goal

abbrev pub invariant-loop-rest : goal.invariant-loop-rest
invariant-loop-rest g l = record {
  reads : lines_after g.L.LineReader.after_line l.reader l.number (lines_of l.rest)
      ≡ lines_after g.L.LineReader.after_line l.initial.reader 1 (lines_of l.octets);
  few : l.number + length l.rest ≤ 1 + length l.octets;
}

abbrev pub decreases-loop-rest : goal.decreases-loop-rest
decreases-loop-rest g l = length l.rest
