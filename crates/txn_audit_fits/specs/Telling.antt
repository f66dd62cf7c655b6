-- What is told of a report that doesn't fit, in one line: the number of the line that isn't
-- explained, what was wanted in its place, and what stands there.
use Rattle.std.specs.Prelude.{ℕ, ◌+◌, ◌++◌, ◌&&◌, List, [], ◌∷◌, map, take, drop, codes, decimal, nat_le, string_bytes, if◌then◌else◌}
use Rattle.txn_audit_fits.specs.declared.difference.Difference.{Difference}
use Rattle.txn_audit_fits.specs.declared.difference.Wanted.{Wanted}
use Rattle.txn_audit_fits.specs.declared.difference.Wanted.TheVariants as wants

-- what was wanted
abbrev pub wanted_text : Wanted → List ℕ
wanted_text (wants.Words words) = words.now
wanted_text (wants.Text line) = string_bytes line

-- a printable octet of ASCII, or `?`
abbrev pub shown : ℕ → ℕ
shown octet = if nat_le 32 octet && nat_le octet 126 then octet else 63

-- what stands at the first of the lines: its first 64 octets
abbrev pub found_text : List (List ℕ) → List ℕ
found_text [] = codes "no further line"
found_text (line ∷ lines) = map shown (take 64 line)

-- the line that tells the difference of the lines of a report
abbrev pub difference_text : Difference → List (List ℕ) → List ℕ
difference_text difference lines =
    codes "line " ++ decimal (difference.before + 1)
    ++ codes " of the report: wanted " ++ wanted_text difference.wanted
    ++ codes ", found " ++ found_text (drop difference.before lines)
