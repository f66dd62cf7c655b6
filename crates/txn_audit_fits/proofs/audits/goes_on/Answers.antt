use Rattle.std.proofs.Common.{ap, not, sym, ◌∙◌}
use Rattle.txn_audit_fits.specs.Walking.{goes_on}
use Rattle.txn_audit_fits.proofs.Lines.{no_lines}
use Rattle.txn_audit_fits.proofs.audits.goes_on.Goals as goal

pub returns-then-is_empty : goal.returns-then-is_empty
returns-then-is_empty c = sym (ap goes_on (no_lines c.args.lines.now (sym c.is_empty.ensures ∙ c.if-is_empty.true)))

pub returns : goal.returns
returns c = sym (ap goes_on c.first_line.ensures.lines ∙ ap not (sym c.is_stop_line.ensures))
