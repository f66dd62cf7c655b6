-- No octets have no lines; lines that show frames, one after another.
use Rattle.std.proofs.Common.{◌≡◌, ℕ, zero, suc, ◌+◌, ◌<◌, ◌≤◌, drop, ◌==◌, Bool, true, false, cond, ◌&&◌, List, [], ◌∷◌, ◌++◌, length, refl, sym, ◌∙◌, ap, arith, append_assoc}
use Rattle.std.specs.List.{list_all, onto_first, slice_split}
use Rattle.std.proofs.lemmas.Bool.Decides.{nat_tests}
use Rattle.std.proofs.lemmas.List.Folds.{list_all-append}
use Rattle.txn_program_lines.specs.Cutting.{lines_of, without_last_empty}
use Rattle.txn_program_lines.proofs.PieceLemmas.{without_last_empty-before}
use Rattle.txn_audit_report.specs.OutLines.{is_out_line}
use Rattle.txn_audit_fits.specs.Walking.{goes_on}

pub no_lines : (octets : List ℕ) → (length octets == 0) ≡ true → lines_of octets ≡ []
no_lines [] e = refl
no_lines (octet ∷ octets) e = absurd (grind (arith, nat_tests))

-- octets that have a line
pub some_octets : (octets : List ℕ) → goes_on (lines_of octets) ≡ true → 0 < length octets
some_octets [] e = absurd (cc e)
some_octets (octet ∷ octets) e = omega arith

-- some lines that show frames, in front of these
pub record Front (report rest : List (List ℕ)) : Type 0 where
  pub passed : List (List ℕ)
  pub lines : report ≡ passed ++ rest
  pub all : list_all is_out_line passed ≡ true

pub front-none : (lines : List (List ℕ)) → Front lines lines
front-none lines = record { passed = []; lines = refl; all = refl }

pub front-more : (lines rest after : List (List ℕ)) (line : List ℕ) → Front lines rest → rest ≡ line ∷ after → is_out_line line ≡ true → Front lines after
front-more lines rest after line f e o = record {
  passed = f.passed ++ line ∷ [];
  lines = f.lines ∙ ap (λ ls. f.passed ++ ls) e ∙ sym (append_assoc f.passed (line ∷ []) after);
  all = list_all-append is_out_line f.passed (line ∷ []) ∙ ap (λ b. b && (is_out_line line && true)) f.all ∙ ap (λ b. b && true) o;
}

-- the first line, and one
pub first-one : (line x : List ℕ) (lines after passed others : List (List ℕ)) → lines ≡ line ∷ after → lines ≡ passed ++ others → passed ≡ x ∷ [] → line ≡ x
first-one line x lines after passed others l e p = let f : line ∷ after ≡ x ∷ others = sym l ∙ e ∙ ap (λ t. t ++ others) p in cc f

-- octets that aren't none have a first line
first_kept : (octet : ℕ) (pieces : List (List ℕ)) → (line : List ℕ) × (after : List (List ℕ)) × (without_last_empty (onto_first octet pieces) ≡ line ∷ after)
first_kept octet [] = (octet ∷ [], [], refl)
first_kept octet (piece ∷ pieces) = (octet ∷ piece, without_last_empty pieces, refl)

pub some_line : (octets : List ℕ) → (length octets == 0) ≡ false → (line : List ℕ) × (after : List (List ℕ)) × (lines_of octets ≡ line ∷ after)
some_line [] e = absurd (cc e)
some_line (octet ∷ octets) e = by_case (octet == 10)
  where
    by_case : (b : Bool) → (line : List ℕ) × (after : List (List ℕ)) × (without_last_empty (cond b ([] ∷ slice_split (λ x. x == 10) octets) (onto_first octet (slice_split (λ x. x == 10) octets))) ≡ line ∷ after)
    by_case true = ([], without_last_empty (slice_split (λ x. x == 10) octets), without_last_empty-before (λ x. x == 10) [] octets)
    by_case false = first_kept octet (slice_split (λ x. x == 10) octets)

-- one line more is passed
pub drop-after : (lines after : List (List ℕ)) (line : List ℕ) (n : ℕ) → drop n lines ≡ line ∷ after → drop (n + 1) lines ≡ after
drop-after [] after line zero e = absurd (cc e)
drop-after [] after line (suc n) e = absurd (cc e)
drop-after (x ∷ lines) after line zero e = let f : lines ≡ after = cc e in f
drop-after (x ∷ lines) after line (suc n) e = let g : suc n + 1 ≡ suc (n + 1) = omega arith in ap (λ k. drop k (x ∷ lines)) g ∙ drop-after lines after line n e

-- where none are left, none are left after more
pub drop-past : (lines : List (List ℕ)) (n m : ℕ) → drop n lines ≡ [] → n ≤ m → drop m lines ≡ []
drop-past [] n zero e l = refl
drop-past [] n (suc m) e l = refl
drop-past (x ∷ lines) zero m e l = absurd (cc e)
drop-past (x ∷ lines) (suc n) zero e l = absurd (omega arith)
drop-past (x ∷ lines) (suc n) (suc m) e l = drop-past lines n m e (omega arith)
