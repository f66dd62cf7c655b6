-- The words of `agree`, and the command that they give.
use Rattle.std.specs.Prelude.{ℕ, ◌≤◌, ◌<◌, Option, Some, None, List, [], ◌∷◌, codes, length, if◌then◌else◌}
use Rattle.std.specs.Str.{bytes_eq}
use Rattle.txn_program_edges.specs.Words.{call_list_of, count_of, id_list_of}
use Rattle.txn_program_lines.specs.LineWords.{◌>>=◌}
use Rattle.txn_program_runs.specs.RunWords.{plans_of}
use Rattle.txn_program_runs.specs.declared.run_words.Plans.{Plans}
use Rattle.txn_program_agree.specs.declared.agree_words.AgreeCommand.{AgreeCommand}

-- the ids, with so many controllers and under these plans
abbrev pub agree_of : ℕ → Plans → List (List ℕ) → Option AgreeCommand
agree_of controllers plans words = do
  ids ← id_list_of words
  Some (record { controllers = controllers; plans = plans; ids = ids })

-- LIST of the starved calls, and the ids
abbrev pub starving_words : ℕ → Option (List ℕ) → List (List ℕ) → Option AgreeCommand
starving_words controllers refused [] = None
starving_words controllers refused (word ∷ words) = do
  starved ← call_list_of word
  agree_of controllers (plans_of refused (Some starved)) words

-- `--starve LIST` and the ids, or without such a plan the ids alone
abbrev pub starving_or : ℕ → Option (List ℕ) → List (List ℕ) → Option AgreeCommand
starving_or controllers refused [] = None
starving_or controllers refused (word ∷ words) =
    if bytes_eq word (codes "--starve") then starving_words controllers refused words
    else agree_of controllers (plans_of refused None) (word ∷ words)

-- LIST of the refused calls, and what may follow
abbrev pub refusing_words : ℕ → List (List ℕ) → Option AgreeCommand
refusing_words controllers [] = None
refusing_words controllers (word ∷ words) = do
  refused ← call_list_of word
  starving_or controllers (Some refused) words

-- `--refuse LIST` and what may follow, or without such a plan that alone
abbrev pub refusing_or : ℕ → List (List ℕ) → Option AgreeCommand
refusing_or controllers [] = None
refusing_or controllers (word ∷ words) =
    if bytes_eq word (codes "--refuse") then refusing_words controllers words
    else starving_or controllers None (word ∷ words)

-- C, a number from 1 to 8, and what follows
abbrev pub counted_words : List (List ℕ) → Option AgreeCommand
counted_words [] = None
counted_words (word ∷ words) = do
  controllers ← count_of 8 word
  refusing_or controllers words

-- `agree C [--refuse LIST] [--starve LIST] ID ..`
abbrev pub agree_command_of : List (List ℕ) → Option AgreeCommand
agree_command_of [] = None
agree_command_of (word ∷ words) =
    if bytes_eq word (codes "agree") then counted_words words else None

-- within the limits of the table: 1 to 8 controllers, and an id to draw
abbrev pub IsWithin : Option AgreeCommand → Type 0
IsWithin None = Unit {0}
IsWithin (Some command) =
    (1 ≤ command.controllers) × (command.controllers ≤ 8) × (0 < length command.ids)
