-- What the words and the lines of a mailbox mean.
use Rattle.std.specs.Prelude.{◌≡◌, ℕ, Option, Some, None, Result, Ok, Err, List, [], ◌∷◌, ◌++◌, codes, if◌then◌else◌}
use Rattle.std.specs.Str.{bytes_eq}
use Rattle.amqp_txn_types.specs.declared.id.TransactionId.{TransactionId}
use Rattle.amqp_resource_record.specs.declared.step.Step.{Step}
use Rattle.txn_program_edges.specs.Words.{id_list_of}
use Rattle.txn_program_lines.specs.declared.numbered_lines.SpellError.{SpellError}
use Rattle.txn_program_lines.specs.declared.numbered_lines.SpellError.TheVariants as spelling
use Rattle.txn_program_lines.specs.Cutting.{lines_of, words_of}
use Rattle.txn_program_lines.specs.LineWords.{◌>>=◌}
use Rattle.txn_program_lines.specs.Lines.{step_of_words, word_at}
use Rattle.txn_program_lines.specs.Numbered.{lines_after}
use Rattle.txn_mailbox.specs.declared.lists.Sender.{Sender}
use Rattle.txn_mailbox.specs.declared.lists.Sender.TheVariants as senders
use Rattle.txn_mailbox.specs.declared.lists.TwoLists.{TwoLists}

-- the ids of the words: `mailbox ID ID ..`
abbrev pub mailbox_ids : List (List ℕ) → Option (List TransactionId)
mailbox_ids [] = None
mailbox_ids (word ∷ words) = if bytes_eq word (codes "mailbox") then id_list_of words else None

-- 0 or 1
abbrev pub sender_of : List ℕ → Option Sender
sender_of word =
    if bytes_eq word (codes "0") then Some senders.First
    else (if bytes_eq word (codes "1") then Some senders.Second else None)

-- the lists with one more step of a sender
abbrev pub with_step : TwoLists → Sender → Step → TwoLists
with_step lists senders.First step = record lists { first = lists.first ++ step ∷ [] }
with_step lists senders.Second step = record lists { second = lists.second ++ step ∷ [] }

-- the lists with the step of a line: 0 or 1, a space, and the line of a step
unfoldable pub with_line : TwoLists → List ℕ → Option TwoLists
with_line lists line = do
  word ← word_at (words_of line)
  sender ← sender_of word.0
  kind ← word_at word.1
  step ← step_of_words kind.0 kind.1
  Some (with_step lists sender step)

-- no step
abbrev pub no_steps : TwoLists
no_steps = record { first = []; second = [] }

-- the two lists that the lines spell, or the number, from 1, of the first line that spells nothing
abbrev pub two_lists_of : List ℕ → Result TwoLists ℕ
two_lists_of octets = lines_after with_line no_steps 1 (lines_of octets)

-- the lists that were spelled are these, or the line told is that one, unless memory ran out
abbrev pub SpellsLists : Result TwoLists SpellError → Result TwoLists ℕ → Type 0
SpellsLists (Ok lists) spelled = spelled ≡ Ok lists
SpellsLists (Err (spelling.Line number)) spelled = spelled ≡ Err number
SpellsLists (Err spelling.NoMemory) spelled = Unit {0}
