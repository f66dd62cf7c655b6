-- The lines that stand after that of a reply, before those of the next.
use Rattle.std.specs.Prelude.{ℕ, ◌≡◌, ◌++◌, ◌∷◌, Bool, true, false, Option, Some, None, List, []}
use Rattle.std.specs.Borrow.{Bor}
use Rattle.std.specs.List.{list_all}
use Rattle.txn_program_lines.specs.Cutting.{lines_of}
use Rattle.txn_audit_report.specs.OutLines.{is_out_line}
use Rattle.txn_audit_fits.specs.declared.judged_lines.Judged.{Judged}
use Rattle.txn_audit_fits.specs.declared.judged_lines.Judged.TheVariants as judged
use Rattle.txn_audit_fits.specs.declared.outs.Outs.{Outs}
use Rattle.txn_audit_fits.specs.declared.outs.Outs.TheVariants as outs
use Rattle.txn_audit_fits.specs.Fits.{out_text}

-- the first of the lines, if there is one, shows a frame
abbrev pub shows_first : List (List ℕ) → Bool
shows_first [] = false
shows_first (line ∷ lines) = is_out_line line

-- this line is the first, and the octets are those after it; or it isn't
abbrev pub IsFirst : List ℕ → List (List ℕ) → Option (Bor (List ℕ)) → Type 0
IsFirst text lines (Some after) = lines ≡ text ∷ lines_of after.now
IsFirst text lines None = (after : List (List ℕ)) → lines ≡ text ∷ after → ⊥

-- these lines may stand after a reply, and those after them may follow
abbrev pub StandsAfter : Outs → List (List ℕ) → List (List ℕ) → Type 0
StandsAfter outs.Any passed others =
    (list_all is_out_line passed ≡ true) × (shows_first others ≡ false)
StandsAfter outs.Nothing passed others = passed ≡ []
StandsAfter (outs.One frame) passed others = passed ≡ out_text frame ∷ []

-- the line of a frame is wanted, and it isn't the first of the lines
abbrev pub Lacks : Outs → List (List ℕ) → Type 0
Lacks outs.Any lines = ⊥
Lacks outs.Nothing lines = ⊥
Lacks (outs.One frame) lines = (after : List (List ℕ)) → lines ≡ out_text frame ∷ after → ⊥

-- the lines were passed up to the rest, or none may stand here
abbrev pub Passes : Outs → List (List ℕ) → Judged → Type 0
Passes outs lines (judged.Explained rest) =
    (passed : List (List ℕ)) × (lines ≡ passed ++ lines_of rest.now)
    × StandsAfter outs passed (lines_of rest.now)
Passes outs lines (judged.Departs rest) = (lines ≡ lines_of rest.now) × Lacks outs lines
