use Rattle.std.proofs.Common.{sym, ◌==◌}
use Rattle.txn_program_lines.proofs.PieceLemmas.{slice_split-cut, slice_split-whole}
use Rattle.txn_program_lines.proofs.pieces.cut_line.Goals as goal

pub returns-in-None-clause-pieces : goal.returns-in-None-clause-pieces
returns-in-None-clause-pieces c = slice_split-whole (λ b. b == 10) c.args.octets.now (sym c.in-None.ensures.place)

pub returns-in-Some-clause-pieces : goal.returns-in-Some-clause-pieces
returns-in-Some-clause-pieces c =
    slice_split-cut (λ b. b == 10) c.args.octets.now c.split_at.result.0.now c.split_at.result.1.now c.in-Some.place (sym c.in-Some.ensures.place) c.split_at.ensures.front c.split_at.ensures.back
