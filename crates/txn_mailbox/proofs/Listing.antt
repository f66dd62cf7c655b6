-- How many steps the lines of octets spell.
use Rattle.std.proofs.Common.{◌≡◌, ℕ, ◌+◌, ◌≤◌, ◌==◌, Option, Some, None, Result, Ok, Err, List, [], ◌∷◌, length, refl, ap, sym, ◌∙◌, arith, length-append}
use Rattle.std.specs.List.{slice_split}
use Rattle.std.proofs.lemmas.List.Splits.{length-slice_split}
use Rattle.std.proofs.lemmas.List.Sums.{count_by-le-length}
use Rattle.amqp_resource_record.specs.declared.step.Step.{Step}
use Rattle.txn_program_lines.specs.Cutting.{lines_of, without_last_empty, words_of}
use Rattle.txn_program_lines.specs.LineWords.{◌>>=◌}
use Rattle.txn_program_lines.specs.Lines.{step_of_words, word_at}
use Rattle.txn_program_lines.specs.Numbered.{lines_after, then_lines}
use Rattle.txn_mailbox.specs.declared.lists.Sender.{Sender}
use Rattle.txn_mailbox.specs.declared.lists.Sender.TheVariants as senders
use Rattle.txn_mailbox.specs.declared.lists.TwoLists.{TwoLists}
use Rattle.txn_program_lines.specs.Reads.{ReadsLines}
use Rattle.txn_program_lines.specs.declared.numbered_lines.SpellError.{SpellError}
use Rattle.txn_program_lines.specs.declared.numbered_lines.SpellError.TheVariants as spelling
use Rattle.txn_mailbox.specs.Lists.{SpellsLists, no_steps, sender_of, two_lists_of, with_line, with_step}

-- how many steps both lists have
abbrev pub total : TwoLists → ℕ
total lists = length lists.first + length lists.second

some_is : {A : Type 0} (a b : A) → Some a ≡ Some b → a ≡ b
some_is a b e = cc e

none_some : {A : Type 0} (a : A) → None ≡ Some a → ⊥
none_some a e = cc e

-- the step of a sender is one more
one-more : (lists next : TwoLists) (sender : Sender) (step : Step) → with_step lists sender step ≡ next → total next ≡ total lists + 1
one-more lists next senders.First step e = sym (ap total e) ∙ (let l = length-append lists.first (step ∷ []) in omega (arith, l))
one-more lists next senders.Second step e = sym (ap total e) ∙ (let l = length-append lists.second (step ∷ []) in omega (arith, l))

of-step : (lists next : TwoLists) (sender : Sender) (step : Option Step) → (step >>= (λ s. Some (with_step lists sender s))) ≡ Some next → total next ≡ total lists + 1
of-step lists next sender None e = absurd (none_some next e)
of-step lists next sender (Some step) e = one-more lists next sender step (some_is _ _ e)

of-kind : (lists next : TwoLists) (sender : Sender) (kind : Option (List ℕ × List (List ℕ)))
    → (kind >>= (λ k. step_of_words k.0 k.1 >>= (λ s. Some (with_step lists sender s)))) ≡ Some next → total next ≡ total lists + 1
of-kind lists next sender None e = absurd (none_some next e)
of-kind lists next sender (Some kind) e = of-step lists next sender (step_of_words kind.0 kind.1) e

of-sender : (lists next : TwoLists) (words : List (List ℕ)) (sender : Option Sender)
    → (sender >>= (λ who. word_at words >>= (λ k. step_of_words k.0 k.1 >>= (λ s. Some (with_step lists who s))))) ≡ Some next → total next ≡ total lists + 1
of-sender lists next words None e = absurd (none_some next e)
of-sender lists next words (Some sender) e = of-kind lists next sender (word_at words) e

of-word : (lists next : TwoLists) (word : Option (List ℕ × List (List ℕ)))
    → (word >>= (λ w. sender_of w.0 >>= (λ who. word_at w.1 >>= (λ k. step_of_words k.0 k.1 >>= (λ s. Some (with_step lists who s)))))) ≡ Some next → total next ≡ total lists + 1
of-word lists next None e = absurd (none_some next e)
of-word lists next (Some word) e = of-sender lists next word.1 (sender_of word.0) e

-- a line is one step more
of-line : (lists next : TwoLists) (line : List ℕ) → with_line lists line ≡ Some next → total next ≡ total lists + 1
unfolding with_line
of-line lists next line e = of-word lists next (word_at (words_of line)) e

-- the lines that follow are at most one step each
of-lines : (lists made : TwoLists) (number : ℕ) (lines : List (List ℕ)) → lines_after with_line lists number lines ≡ Ok made → total made ≤ total lists + length lines
unfolding lines_after
of-lines lists made number [] e = let same : lists ≡ made = cc e in omega (arith, ap total same)
of-lines lists made number (line ∷ others) e =
    first (with_line lists line) (λ next is. of-line lists next line is) (λ next rest. of-lines next made (number + 1) others rest) e
  where
    first : (read : Option TwoLists) → ((next : TwoLists) → read ≡ Some next → total next ≡ total lists + 1)
        → ((next : TwoLists) → lines_after with_line next (number + 1) others ≡ Ok made → total made ≤ total next + length others)
        → then_lines read number (λ next. lines_after with_line next (number + 1) others) ≡ Ok made → total made ≤ total lists + length (line ∷ others)
    first None adds rest e = absurd (cc e)
    first (Some next) adds rest e = let more = rest next e in let one = adds next refl in omega (arith, more, one)

no_more : (pieces : List (List ℕ)) → length (without_last_empty pieces) ≤ length pieces
no_more [] = omega arith
no_more ([] ∷ []) = omega arith
no_more ((b ∷ bs) ∷ pieces) = let more = no_more pieces in omega (arith, more)
no_more ([] ∷ (p ∷ pieces)) = let more = no_more (p ∷ pieces) in omega (arith, more)

-- octets spell at most one step more than there are octets
pub few-steps : (octets : List ℕ) (made : TwoLists) → two_lists_of octets ≡ Ok made → length made.first + length made.second ≤ length octets + 1
few-steps octets made e =
    let feed : ℕ → _ = λ (octet : ℕ). octet == 10 in
    let lines = of-lines no_steps made 1 (lines_of octets) e in
    let pieces = no_more (slice_split feed octets) in
    let count = length-slice_split feed octets in
    let few = count_by-le-length feed octets in
    omega (arith, lines, pieces, count, few)

-- the line told is that one
pub bad-lists : (error : SpellError) (made : Result TwoLists ℕ) (new : TwoLists) → ReadsLines made new (Err error) → SpellsLists (Err error) made
bad-lists (spelling.Line number) made new read = read
bad-lists spelling.NoMemory made new read = tt
