use Rattle.std.proofs.Common.{ap, sym, ◌∙◌}
use Rattle.txn_program_lines.specs.Cutting.{lines_of}
use Rattle.txn_audit_fits.specs.Passing.{shows_first}
use Rattle.txn_audit_fits.proofs.Lines.{front-more, front-none, no_lines}
use Rattle.txn_audit_fits.proofs.outs.lines_after_any.Goals as goal

pub loop-line-init : goal.loop-line-init
loop-line-init c = front-none (lines_of c.args.lines.now)

pub loop-line-preserved : goal.loop-line-preserved
loop-line-preserved c =
    front-more (lines_of c.args.lines.now) (lines_of c.loop-line.rest.now) (lines_of c.first_line.result.1.now) c.first_line.result.0.now c.loop-line.invariant
    c.first_line.ensures.lines (sym c.in_ok-is_out_line.ensures ∙ c.if-not-branch.false)

pub returns-then-not-branch : goal.returns-then-not-branch
returns-then-not-branch c =
    let f = c.loop-line.invariant in
    (f.passed, f.lines, (f.all, ap shows_first c.first_line.ensures.lines ∙ sym c.in_ok-is_out_line.ensures ∙ c.if-not-branch.true))

pub returns : goal.returns
returns c =
    let f = c.loop-line.invariant in
    (f.passed, f.lines, (f.all, ap shows_first (no_lines c.loop-line.rest.now (sym c.is_empty.ensures ∙ c.loop-line-test.false))))
