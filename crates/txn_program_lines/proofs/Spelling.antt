-- Reading the lines of the input one after another.
use Rattle.std.proofs.Common.{◌≡◌, ℕ, ◌+◌, ◌==◌, true, Option, Some, None, Result, Ok, Err, List, [], ◌∷◌, ◌++◌, length, refl, sym, ◌∙◌, ap, append_assoc, arith}
use Rattle.std.proofs.lemmas.Bool.Decides.{nat_tests}
use Rattle.std.proofs.lemmas.List.{append-nil}
use Rattle.txn_program_lines.specs.Cutting.{lines_of}
use Rattle.amqp_resource_record.specs.declared.step.Step.{Step}
use Rattle.txn_program_lines.specs.Numbered.{item_appended, item_then, items_from, lines_after, then_lines, with_item}
use Rattle.txn_program_lines.specs.Reads.{ReadsLines, Spells}
use Rattle.txn_program_lines.specs.declared.numbered_lines.SpellError.{SpellError}
use Rattle.txn_program_lines.specs.declared.numbered_lines.SpellError.TheVariants as spelling

-- one line more was read
pub read-more : {S : Type 0} (reads : S → List ℕ → Option S) (state next : S) (number : ℕ) (rest line after : List ℕ) (total : Result S ℕ)
    → lines_of rest ≡ line ∷ lines_of after → reads state line ≡ Some next
    → lines_after reads state number (lines_of rest) ≡ total
    → lines_after reads next (number + 1) (lines_of after) ≡ total
unfolding lines_after
read-more reads state next number rest line after total lines read so_far =
    let one : lines_after reads state number (lines_of rest) ≡ lines_after reads next (number + 1) (lines_of after) =
    rw (lines, read) refl in
    sym one ∙ so_far

-- the line that comes next is outside the table
pub read-bad : {S : Type 0} (reads : S → List ℕ → Option S) (state : S) (number : ℕ) (rest line after : List ℕ) (total : Result S ℕ)
    → lines_of rest ≡ line ∷ lines_of after → reads state line ≡ None
    → lines_after reads state number (lines_of rest) ≡ total → total ≡ Err number
unfolding lines_after
read-bad reads state number rest line after total lines unread so_far =
    let one : lines_after reads state number (lines_of rest) ≡ Err number = rw (lines, unread) refl in
    sym so_far ∙ one

-- no octet is left
is_nil : (rest : List ℕ) → (length rest == 0) ≡ true → rest ≡ []
is_nil [] h = refl
is_nil (b ∷ bs) h = absurd (grind (arith, nat_tests))

-- no line is left
pub read-all : {S : Type 0} (reads : S → List ℕ → Option S) (state : S) (number : ℕ) (rest : List ℕ) (total : Result S ℕ)
    → (length rest == 0) ≡ true → lines_after reads state number (lines_of rest) ≡ total → total ≡ Ok state
unfolding lines_after
read-all reads state number rest total none so_far =
    let one : lines_after reads state number (lines_of rest) ≡ Ok state = rw (is_nil rest none) refl in
    sym so_far ∙ one

-- ---- items

-- the items that were read, before those that are still read
abbrev pub with_front : {A : Type 0} → List A → Result (List A) ℕ → Result (List A) ℕ
with_front front (Ok more) = Ok (front ++ more)
with_front front (Err bad) = Err bad

-- none were read
pub with_front-nil : {A : Type 0} (read : Result (List A) ℕ) → with_front [] read ≡ read
with_front-nil (Ok more) = refl
with_front-nil (Err bad) = refl

-- one item more was read
regroup : {A : Type 0} (front : List A) (item : A) (n : ℕ) (read : Result (List A) ℕ) → with_front (front ++ item ∷ []) read ≡ with_front front (item_then (Some item) n read)
regroup front item n (Ok more) = ap (λ (all : List _). Ok all) (append_assoc front (item ∷ []) more)
regroup front item n (Err bad) = refl

-- lines whose items are appended one after another are the lines that spell them all
pub appended-items : {A : Type 0} (spelled : List ℕ → Option A) (front : List A) (number : ℕ) (lines : List (List ℕ))
    → lines_after (with_item spelled) front number lines ≡ with_front front (items_from spelled number lines)
unfolding lines_after items_from
appended-items spelled front number [] = sym (ap (λ (all : List _). Ok all) (append-nil front))
appended-items spelled front number (line ∷ others) =
    by_line (spelled line) (λ item. appended-items spelled (front ++ item ∷ []) (number + 1) others)
  where
    by_line : (o : Option _)
        → ((item : _) → lines_after (with_item spelled) (front ++ item ∷ []) (number + 1) others
        ≡ with_front (front ++ item ∷ []) (items_from spelled (number + 1) others))
        → then_lines (item_appended front o) number (λ next. lines_after (with_item spelled) next (number + 1) others)
        ≡ with_front front (item_then o number (items_from spelled (number + 1) others))
    by_line None more = refl
    by_line (Some item) more =
        more item ∙ regroup front item number (items_from spelled (number + 1) others)

-- ---- steps

-- steps that were appended line by line are those that the lines spell
pub spelled-steps : (spelled : List ℕ → Option Step) (lines : List (List ℕ)) (none steps : List Step)
    → none ≡ [] → lines_after (with_item spelled) none 1 lines ≡ Ok steps → items_from spelled 1 lines ≡ Ok steps
spelled-steps spelled lines none steps empty read =
    sym (with_front-nil (items_from spelled 1 lines)) ∙ sym (appended-items spelled [] 1 lines)
    ∙ ap (λ (start : List Step). lines_after (with_item spelled) start 1 lines) (sym empty) ∙ read

-- and where a line is outside the table, it is the first that spells none
pub spelled-none : (spelled : List ℕ → Option Step) (lines : List (List ℕ)) (none steps : List Step) (error : SpellError)
    → none ≡ [] → ReadsLines (lines_after (with_item spelled) none 1 lines) steps (Err error)
    → Spells (Err error) (items_from spelled 1 lines)
spelled-none spelled lines none steps (spelling.Line number) empty read =
    sym (with_front-nil (items_from spelled 1 lines)) ∙ sym (appended-items spelled [] 1 lines)
    ∙ ap (λ (start : List Step). lines_after (with_item spelled) start 1 lines) (sym empty) ∙ read
spelled-none spelled lines none steps spelling.NoMemory empty read = tt
