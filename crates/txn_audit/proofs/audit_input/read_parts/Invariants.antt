use Rattle.std.proofs.Common.{◌≡◌, ◌+◌, ◌≤◌, length}
use Rattle.txn_program_lines.specs.Cutting.{lines_of}
use Rattle.txn_audit.specs.AuditInput.{parts_from}
use Rattle.txn_audit.proofs.Parts.{after_steps}
use Rattle.txn_audit.proofs.audit_input.read_parts.Given as goal

abbrev pub invariant-loop-rest : goal.invariant-loop-rest
invariant-loop-rest l = record {
  parts : after_steps l.steps (parts_from l.number (lines_of l.rest)) ≡ parts_from 1 (lines_of l.octets);
  count : l.number ≡ length l.steps + 1;
  few : l.number + length l.rest ≤ 1 + length l.octets;
}

abbrev pub decreases-loop-rest : goal.decreases-loop-rest
decreases-loop-rest l = length l.rest
