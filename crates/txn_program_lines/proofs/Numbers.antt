-- Numbers read from the left.
use Rattle.std.proofs.Common.{◌≡◌, ℕ, suc, ◌+◌, ◌*◌, ◌-◌, ◌<◌, true, false, cond, Some, None, List, [], ◌∷◌, length, get_or, drop, drop-cons, refl, arith}
use Rattle.std.specs.Char.{is_ascii_digit}
use Rattle.std.proofs.lemmas.Bool.Decides.{nat_tests}
use Rattle.txn_program_lines.specs.LineWords.{at_most, number_after}

-- a number above the limit stays above it with more digits
pub at_most-above : (limit n : ℕ) (ds : List ℕ) → limit < n → at_most limit (number_after n ds) ≡ None
at_most-above limit n [] above = grind (arith, nat_tests)
at_most-above limit n (d ∷ ds) above =
    elim (is_ascii_digit d) as (λ t. at_most limit (cond t (number_after (10 * n + (d - 48)) ds) None) ≡ None) [
      | true ↦ at_most-above limit (10 * n + (d - 48)) ds (omega arith)
      | false ↦ refl
    ]

-- a number that isn't taken is above the limit
above : (limit m : ℕ) → at_most limit (Some m) ≡ None → limit < m
above limit m h = grind (arith, nat_tests)

-- no further digits make a number that is above the limit already fit
pub at_most-stopped : (limit n i : ℕ) (word : List ℕ) → i < length word → is_ascii_digit (get_or word i 0) ≡ true → at_most limit (Some (10 * n + (get_or word i 0 - 48))) ≡ None → at_most limit (number_after n (drop i word)) ≡ None
at_most-stopped limit n i word within digit stopped =
    rw (drop-cons word i 0, digit) (at_most-above limit (10 * n + (get_or word i 0 - 48)) (drop (suc i) word) (above limit _ stopped))
