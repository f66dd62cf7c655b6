use Rattle.std.proofs.Common.{sym, ◌∙◌, ap}
use Rattle.txn_program_lines.specs.LineWords.{at_most}
use Rattle.txn_program_lines.proofs.Numbers.{at_most-stopped}
use Rattle.txn_program_lines.proofs.line_words.digits_of.Goals as goal

pub returns-in_default : goal.returns-in_default
returns-in_default c =
    let digit = sym c.is_ascii_digit.ensures.value ∙ c.if-not-is_ascii_digit.false in
    let stopped = at_most-stopped c.args.limit c.loop-octet.number c.loop-octet.octet-index c.args.word.now c.loop-octet-test.true digit (sym c.in_default.ensures) in
    sym (sym (ap (at_most c.args.limit) c.loop-octet.invariant.reads) ∙ stopped)
