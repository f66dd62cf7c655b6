-- The arguments and the input of an audit: ids, step lines, a line `report`, the lines of a report.
use Rattle.std.specs.Prelude.{ℕ, ◌+◌, Option, Some, None, Result, Ok, Err, List, [], ◌∷◌, codes, if◌then◌else◌}
use Rattle.std.specs.Str.{bytes_eq}
use Rattle.amqp_txn_types.specs.declared.id.TransactionId.{TransactionId}
use Rattle.amqp_resource_record.specs.declared.step.Step.{Step}
use Rattle.txn_program_lines.specs.Lines.{step_of_line}
use Rattle.txn_program_edges.specs.Words.{id_list_of}

-- audit ID ID ..
abbrev pub audit_words : List (List ℕ) → Option (List TransactionId)
audit_words [] = None
audit_words (word ∷ words) = if bytes_eq word (codes "audit") then id_list_of words else None

-- steps, and the lines after a line `report`, where there is one
abbrev pub Parts : Type 0
Parts = List Step × Option (List (List ℕ))

-- a step before those of the lines that follow, or the number of the line that spells none
abbrev pub step_then : Option Step → ℕ → Result Parts ℕ → Result Parts ℕ
step_then None number others = Err number
step_then (Some step) number (Ok more) = Ok (step ∷ more.0, more.1)
step_then (Some step) number (Err bad) = Err bad

-- the steps of the lines up to the first that is exactly `report`, and the lines after that one; or
-- the number of the first line before it that isn't a step; the first of the lines has that number
unfoldable pub parts_from : ℕ → List (List ℕ) → Result Parts ℕ
parts_from number [] = Ok ([], None)
parts_from number (line ∷ lines) =
    if bytes_eq line (codes "report") then Ok ([], Some lines)
    else step_then (step_of_line line) number (parts_from (number + 1) lines)
