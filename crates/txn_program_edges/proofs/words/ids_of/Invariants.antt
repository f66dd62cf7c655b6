use Rattle.std.proofs.Common.{◌≡◌, drop}
use Rattle.txn_program_edges.specs.Words.{each, id_of}
use Rattle.txn_program_edges.proofs.WordLemmas.{with_more}
use Rattle.txn_program_edges.proofs.words.ids_of.Given as goal

-- the ids so far, and then those of the words that are left
abbrev pub invariant-loop-word : goal.invariant-loop-word
invariant-loop-word l = each id_of l.words ≡ with_more l.ids (each id_of (drop l.word-index l.words))
