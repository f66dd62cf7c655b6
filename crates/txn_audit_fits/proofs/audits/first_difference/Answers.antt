use Rattle.std.proofs.Common.{arith}
use Rattle.txn_program_lines.specs.Cutting.{lines_of}
use Rattle.txn_audit_fits.proofs.Departing.{counts-less, departs-all}
use Rattle.txn_audit_fits.proofs.audits.first_difference.Goals as goal

pub returns-in-Departs-clause-differs : goal.returns-in-Departs-clause-differs
returns-in-Departs-clause-differs g c =
    let d = rw c.in-Departs.is at c.in_ok-judge_lines.ensures.judged in
    let lines = lines_of c.args.lines.now in
    let rest = lines_of c.in-Departs.rest.now in
    let less = counts-less c.args.steps.now (g.G.IdSource.next c.args.ids.now) lines rest d in
    departs-all c.args.steps.now (g.G.IdSource.next c.args.ids.now) lines rest _ (omega (arith, less, c.count_lines.ensures, c.count_lines-in-Departs.ensures)) d

pub returns-in-Explained-clause-differs : goal.returns-in-Explained-clause-differs
returns-in-Explained-clause-differs g c = rw c.in-Explained.is at c.in_ok-judge_lines.ensures.judged
