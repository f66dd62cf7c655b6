-- Lines and words of texts that hold no octet that parts them.
use Rattle.std.proofs.Common.{◌≡◌, ℕ, zero, suc, ◌+◌, ◌/◌, ◌%◌, ◌<◌, ◌==◌, ◌&&◌, Bool, true, false, cond, not, List, [], ◌∷◌, ◌++◌, refl, ◌∙◌, ap, arith, append_assoc}
use Rattle.std.specs.Prelude.{decimal, nat_lt, slice_index}
use Rattle.hex.specs.Hex.{encode_lower, encode_with, lower_digits}
use Rattle.std.specs.Fmt.{digit_glyph, digits, digits_onto}
use Rattle.std.specs.List.{list_all, onto_first, slice_split}
use Rattle.std.proofs.lemmas.Bool.{and_parts}
use Rattle.std.proofs.lemmas.Bool.Decides.{nat_tests}
use Rattle.std.proofs.lemmas.List.Folds.{list_all-append}
use Rattle.std.proofs.lemmas.List.Splits.{slice_split-cons_no, slice_split-cons_yes}
use Rattle.txn_program_lines.specs.Cutting.{lines_of}
use Rattle.txn_program_lines.proofs.PieceLemmas.{lines_of-more}

-- no octet of the text is this one
abbrev pub is_free : ℕ → List ℕ → Bool
is_free octet text = list_all (λ x. not (x == octet)) text

from_not : (b : Bool) → not b ≡ true → b ≡ false
from_not true e = cc e
from_not false e = refl

same : (n : ℕ) → (n == n) ≡ true
same n = grind (arith, nat_tests)

-- the first piece ends at the first octet that parts
pub split-first : (octet : ℕ) (a b : List ℕ) → is_free octet a ≡ true → slice_split (λ x. x == octet) (a ++ octet ∷ b) ≡ a ∷ slice_split (λ x. x == octet) b
split-first octet [] b f = slice_split-cons_yes (λ x. x == octet) octet b (same octet)
split-first octet (x ∷ a) b f =
    let parts = and_parts (not (x == octet)) (is_free octet a) f in
    slice_split-cons_no (λ y. y == octet) x (a ++ octet ∷ b) (from_not (x == octet) parts.0) ∙ ap (onto_first x) (split-first octet a b parts.1)

-- a text without one is one piece
pub split-whole : (octet : ℕ) (a : List ℕ) → is_free octet a ≡ true → slice_split (λ x. x == octet) a ≡ a ∷ []
split-whole octet [] f = refl
split-whole octet (x ∷ a) f =
    let parts = and_parts (not (x == octet)) (is_free octet a) f in
    slice_split-cons_no (λ y. y == octet) x a (from_not (x == octet) parts.0) ∙ ap (onto_first x) (split-whole octet a parts.1)

-- a line before others
pub lines-first : (a b : List ℕ) → is_free 10 a ≡ true → lines_of ((a ++ 10 ∷ []) ++ b) ≡ a ∷ lines_of b
lines-first a b f = ap lines_of (append_assoc a (10 ∷ []) b) ∙ lines_of-more (a ++ 10 ∷ b) a b (split-first 10 a b f)

pub free-append : (octet : ℕ) (a b : List ℕ) → is_free octet a ≡ true → is_free octet b ≡ true → is_free octet (a ++ b) ≡ true
free-append octet a b f g = list_all-append (λ x. not (x == octet)) a b ∙ ap (λ t. t && is_free octet b) f ∙ g

-- ---- digits

-- an octet below 48, as those that part words and lines are, is none of a number's
free-onto : (octet k n : ℕ) (acc : List ℕ) → octet < 48 → is_free octet acc ≡ true → is_free octet (digits_onto k 10 false n acc) ≡ true
free-onto octet zero n acc low f = f
free-onto octet (suc k) n acc low f = by_end (n / 10 == 0) (free-onto octet k (n / 10) (digit_glyph false (n % 10) ∷ acc) low more)
  where
    glyph : (t : Bool) → not (cond t (48 + n % 10) (87 + n % 10) == octet) ≡ true
    glyph true = grind (arith, nat_tests)
    glyph false = grind (arith, nat_tests)

    more : is_free octet (digit_glyph false (n % 10) ∷ acc) ≡ true
    more = ap (λ t. t && is_free octet acc) (glyph (nat_lt (n % 10) 10)) ∙ f

    by_end : (b : Bool) → is_free octet (digits_onto k 10 false (n / 10) (digit_glyph false (n % 10) ∷ acc)) ≡ true → is_free octet (cond b (digit_glyph false (n % 10) ∷ acc) (digits_onto k 10 false (n / 10) (digit_glyph false (n % 10) ∷ acc))) ≡ true
    by_end true further = more
    by_end false further = further

pub free-decimal : (octet n : ℕ) → octet < 48 → is_free octet (decimal n) ≡ true
unfolding digits
free-decimal octet n low = free-onto octet 64 n [] low refl

-- ---- hexadecimal digits

free_index : (octet : ℕ) (table : List ℕ) (k : ℕ) → is_free octet table ≡ true → not (0 == octet) ≡ true → not (slice_index table k == octet) ≡ true
free_index octet [] k f z = z
free_index octet (x ∷ table) zero f z = (and_parts (not (x == octet)) (is_free octet table) f).0
free_index octet (x ∷ table) (suc k) f z = free_index octet table k (and_parts (not (x == octet)) (is_free octet table) f).1 z

pub free-encode : (octet : ℕ) (xs : List ℕ) → is_free octet lower_digits ≡ true → not (0 == octet) ≡ true → is_free octet (encode_lower xs) ≡ true
unfolding encode_with
free-encode octet [] f z = refl
free-encode octet (x ∷ xs) f z =
    ap (λ t. t && is_free octet (slice_index lower_digits (x % 16) ∷ encode_lower xs)) (free_index octet lower_digits (x / 16) f z)
    ∙ ap (λ t. t && is_free octet (encode_lower xs)) (free_index octet lower_digits (x % 16) f z)
    ∙ free-encode octet xs f z
