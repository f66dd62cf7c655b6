use Rattle.std.proofs.Common.{◌≡◌, ◌==◌}
use Rattle.std.specs.List.{slice_split}
use Rattle.txn_program_lines.specs.Cutting.{pieces_left}
use Rattle.txn_program_edges.specs.Words.{each, call_of}
use Rattle.txn_program_edges.proofs.WordLemmas.{octets_left, with_more}
use Rattle.txn_program_edges.proofs.words.calls_of.Given as goal

-- the numbers so far, and then those of the pieces that are left
abbrev pub invariant-loop-rest : goal.invariant-loop-rest
invariant-loop-rest l = each call_of (slice_split (λ b. b == 44) l.word) ≡ with_more l.calls (each call_of (pieces_left 44 l.rest))

abbrev pub decreases-loop-rest : goal.decreases-loop-rest
decreases-loop-rest l = octets_left l.rest
