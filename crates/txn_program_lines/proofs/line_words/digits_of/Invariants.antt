use Rattle.std.proofs.Common.{◌≡◌, ◌≤◌, drop}
use Rattle.txn_program_lines.specs.LineWords.{number_after}
use Rattle.txn_program_lines.proofs.line_words.digits_of.Given as goal

abbrev pub invariant-loop-octet : goal.invariant-loop-octet
invariant-loop-octet l = record {
  within : l.number ≤ l.limit;
  reads : number_after l.number (drop l.octet-index l.word) ≡ number_after 0 l.word;
}
