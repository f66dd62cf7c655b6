use Rattle.std.proofs.Common.{◌≡◌, ◌-◌, length, drop}
use Rattle.txn_program_lines.specs.Cutting.{lines_of}
use Rattle.txn_audit_fits.proofs.Auditing.{Audited}
use Rattle.txn_audit_fits.proofs.audits.judge_lines.Given as goal

abbrev pub invariant-loop-step : goal.invariant-loop-step
invariant-loop-step g l = record {
  audited : Audited l.held l.work l.steps (g.G.IdSource.next l.fn.ids) (lines_of l.lines) (drop l.answered l.steps) (g.G.IdSource.next l.ids) (lines_of l.rest);
  start : g.G.IdSource.start l.ids ≡ g.G.IdSource.start l.fn.ids;
}

abbrev pub decreases-loop-step : goal.decreases-loop-step
decreases-loop-step g l = length l.steps - l.answered
