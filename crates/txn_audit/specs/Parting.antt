-- What the reading of the parts of an input answers.
use Rattle.std.specs.Prelude.{ℕ, ◌≡◌, ◌+◌, Option, Some, None, Result, Ok, Err, List, length}
use Rattle.std.specs.Borrow.{Bor}
use Rattle.txn_program_lines.specs.Cutting.{lines_of}
use Rattle.txn_program_lines.specs.declared.numbered_lines.SpellError.{SpellError}
use Rattle.txn_program_lines.specs.declared.numbered_lines.SpellError.TheVariants as spelling
use Rattle.txn_audit.specs.declared.audit_input.AuditInput.{AuditInput}
use Rattle.txn_audit.specs.AuditInput.{Parts}

-- the lines of the octets, where there are octets
abbrev pub lines_left : Option (Bor (List ℕ)) → Option (List (List ℕ))
lines_left None = None
lines_left (Some octets) = Some (lines_of octets.now)

-- the parts that were read are these, each line before `report` a step, or the line told is that
-- one, unless memory ran out
abbrev pub ReadsParts : Result AuditInput SpellError → Result Parts ℕ → Type 0
ReadsParts (Ok input) parts =
    (parts ≡ Ok (input.steps, lines_left input.report)) × (input.next ≡ length input.steps + 1)
ReadsParts (Err (spelling.Line number)) parts = parts ≡ Err number
ReadsParts (Err spelling.NoMemory) parts = Unit {0}
