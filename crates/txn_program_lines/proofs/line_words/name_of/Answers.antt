use Rattle.std.proofs.Common.{sym, ◌∙◌}
use Rattle.txn_program_lines.proofs.Names.{IsUtf8-name}
use Rattle.txn_program_lines.proofs.line_words.name_of.Goals as goal

pub unreachable-requires : goal.unreachable-requires
unreachable-requires c = c.in-Err.ensures.cases.0 (IsUtf8-name c.args.word.now (sym c.is_name.ensures ∙ c.if-not-is_name.false))
