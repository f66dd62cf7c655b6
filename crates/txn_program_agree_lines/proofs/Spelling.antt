-- Reading the lines of events one after another.
use Rattle.std.proofs.Common.{◌≡◌, ℕ, Option, Ok, Err, List, [], sym, ◌∙◌, ap}
use Rattle.txn_parties.specs.declared.event.Event.{Event}
use Rattle.txn_program_lines.specs.Numbered.{items_from, lines_after, with_item}
use Rattle.txn_program_lines.specs.Reads.{ReadsLines}
use Rattle.txn_program_lines.specs.declared.numbered_lines.SpellError.{SpellError}
use Rattle.txn_program_lines.specs.declared.numbered_lines.SpellError.TheVariants as spelling
use Rattle.txn_program_lines.proofs.Spelling.{appended-items, with_front-nil}
use Rattle.txn_program_agree_lines.specs.EventLines.{SpellsEvents}

-- events that were appended line by line are those that the lines spell
pub spelled-events : (spelled : List ℕ → Option Event) (lines : List (List ℕ)) (none events : List Event)
    → none ≡ [] → lines_after (with_item spelled) none 1 lines ≡ Ok events → items_from spelled 1 lines ≡ Ok events
spelled-events spelled lines none events empty read =
    sym (with_front-nil (items_from spelled 1 lines)) ∙ sym (appended-items spelled [] 1 lines)
    ∙ ap (λ (start : List Event). lines_after (with_item spelled) start 1 lines) (sym empty) ∙ read

-- and where a line is outside the table, it is the first that spells none
pub spelled-none : (spelled : List ℕ → Option Event) (lines : List (List ℕ)) (none events : List Event) (error : SpellError)
    → none ≡ [] → ReadsLines (lines_after (with_item spelled) none 1 lines) events (Err error)
    → SpellsEvents (Err error) (items_from spelled 1 lines)
spelled-none spelled lines none events (spelling.Line number) empty read =
    sym (with_front-nil (items_from spelled 1 lines)) ∙ sym (appended-items spelled [] 1 lines)
    ∙ ap (λ (start : List Event). lines_after (with_item spelled) start 1 lines) (sym empty) ∙ read
spelled-none spelled lines none events spelling.NoMemory empty read = tt
