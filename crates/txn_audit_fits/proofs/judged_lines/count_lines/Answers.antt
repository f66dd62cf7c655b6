use Rattle.std.proofs.Common.{sym, ◌∙◌, ap, arith, length}
use Rattle.txn_audit_fits.proofs.Lines.{no_lines}
use Rattle.txn_audit_fits.proofs.judged_lines.count_lines.Goals as goal

pub loop-rest-preserved : goal.loop-rest-preserved
loop-rest-preserved c =
    let i = c.loop-rest.invariant in
    let e = ap length c.first_line.ensures.lines in
    record { lines = omega (arith, i.lines, e); octets = omega (arith, i.octets, c.first_line.ensures.shorter) }

pub returns : goal.returns
returns c =
    let e = ap length (no_lines c.loop-rest.rest.now (sym c.is_empty.ensures ∙ c.loop-rest-test.false)) in
    omega (arith, c.loop-rest.invariant.lines, e)
