-- There are at most as many lines as octets, and one.
use Rattle.std.proofs.Common.{ℕ, ◌+◌, ◌≤◌, ◌==◌, List, [], ◌∷◌, length, arith}
use Rattle.std.specs.List.{slice_split}
use Rattle.std.proofs.lemmas.List.Splits.{length-slice_split}
use Rattle.std.proofs.lemmas.List.Sums.{count_by-le-length}
use Rattle.txn_program_lines.specs.Cutting.{lines_of, without_last_empty}

shorter : (pieces : List (List ℕ)) → length (without_last_empty pieces) ≤ length pieces
shorter [] = omega arith
shorter ([] ∷ []) = omega arith
shorter ([] ∷ piece ∷ pieces) = let r = shorter (piece ∷ pieces) in omega (arith, r)
shorter ((octet ∷ octets) ∷ pieces) = let r = shorter pieces in omega (arith, r)

pub lines-few : (octets : List ℕ) → length (lines_of octets) ≤ length octets + 1
lines-few octets =
    let a = shorter (slice_split (λ octet. octet == 10) octets) in
    let b = length-slice_split (λ octet. octet == 10) octets in
    let c = count_by-le-length (λ octet. octet == 10) octets in
    omega (arith, a, b, c)
