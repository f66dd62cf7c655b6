-- What the readers of step lines answer.
use Rattle.std.specs.Prelude.{◌≡◌, ℕ, Option, Some, None, Result, Ok, Err, List}
use Rattle.std.specs.Borrow.{Bor}
use Rattle.amqp_resource_record.specs.declared.step.Step.{Step}
use Rattle.txn_program_lines.specs.declared.unread.Unread.{Unread}
use Rattle.txn_program_lines.specs.declared.unread.Unread.TheVariants as unread
use Rattle.txn_program_lines.specs.declared.numbered_lines.SpellError.{SpellError}
use Rattle.txn_program_lines.specs.declared.numbered_lines.SpellError.TheVariants as spelling
use Rattle.txn_program_lines.specs.Cutting.{pieces_left}

-- the words that are left of a line, parted by one space each
abbrev pub words_left : Option (Bor (List ℕ)) → List (List ℕ)
words_left octets = pieces_left 32 octets

-- what was read, seen by view, is what stands there, unless memory ran out
abbrev pub Reads : {X Y : Type 0} → (X → Y) → Result X Unread → Option Y → Type 0
Reads view (Ok found) read = read ≡ Some (view found)
Reads view (Err unread.OutsideTable) read = read ≡ None
Reads view (Err unread.NoMemory) read = Unit {0}

-- a line was read into that state, or it makes nothing, unless memory ran out
abbrev pub ReadsLine : {S : Type 0} → Option S → S → Result Unit Unread → Type 0
ReadsLine made new (Ok done) = made ≡ Some new
ReadsLine made new (Err unread.OutsideTable) = made ≡ None
ReadsLine made new (Err unread.NoMemory) = Unit {0}

-- the lines were read into that state, or the line told is the first that makes nothing, unless
-- memory ran out
abbrev pub ReadsLines : {S : Type 0} → Result S ℕ → S → Result Unit SpellError → Type 0
ReadsLines made new (Ok done) = made ≡ Ok new
ReadsLines made new (Err (spelling.Line number)) = made ≡ Err number
ReadsLines made new (Err spelling.NoMemory) = Unit {0}

-- the steps that were spelled are these, or the line told is that one, unless memory ran out
abbrev pub Spells : Result (List Step) SpellError → Result (List Step) ℕ → Type 0
Spells (Ok steps) spelled = spelled ≡ Ok steps
Spells (Err (spelling.Line number)) spelled = spelled ≡ Err number
Spells (Err spelling.NoMemory) spelled = Unit {0}
