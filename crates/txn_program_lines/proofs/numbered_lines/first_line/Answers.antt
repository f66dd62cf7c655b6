use Rattle.txn_program_lines.proofs.PieceLemmas.{lines_of-last, lines_of-more}
use Rattle.txn_program_lines.proofs.numbered_lines.first_line.Goals as goal

pub returns-in-None-clause-lines : goal.returns-in-None-clause-lines
returns-in-None-clause-lines c =
    lines_of-last c.args.octets.now c.cut_line.result.0.now c.requires (rw c.in-None.is at c.cut_line.ensures.pieces) (rw c.in-None.is at c.cut_line.ensures.last)

pub returns-in-Some-clause-lines : goal.returns-in-Some-clause-lines
returns-in-Some-clause-lines c =
    lines_of-more c.args.octets.now c.cut_line.result.0.now c.in-Some.after.now (rw c.in-Some.is at c.cut_line.ensures.pieces)
