use Rattle.std.proofs.Common.{sym, ◌∙◌, arith}
use Rattle.txn_program_lines.specs.Cutting.{lines_of}
use Rattle.txn_audit_fits.proofs.Lines.{drop-after, drop-past, no_lines}
use Rattle.txn_audit_fits.proofs.judged_lines.lines_from.Goals as goal

pub loop-rest-preserved : goal.loop-rest-preserved
loop-rest-preserved c =
    let i = c.loop-rest.invariant in
    record {
      lines = sym (drop-after (lines_of c.args.octets.now) (lines_of c.first_line.result.1.now) c.first_line.result.0.now c.loop-rest.passed (sym i.lines ∙ c.first_line.ensures.lines));
      few = omega arith;
    }

pub returns : goal.returns
returns c =
    let i = c.loop-rest.invariant in
    let none = no_lines c.loop-rest.rest.now (sym c.is_empty.ensures ∙ c.loop-rest-test.false) in
    none ∙ sym (drop-past (lines_of c.args.octets.now) c.loop-rest.passed c.args.count (sym i.lines ∙ none) i.few)
