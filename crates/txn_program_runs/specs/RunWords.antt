-- The words of `run`, `listen` and `make`, and the command that they give.
use Rattle.std.specs.Prelude.{ℕ, ◌≤◌, Bool, true, false, Option, Some, None, List, [], ◌∷◌, codes, if◌then◌else◌}
use Rattle.std.specs.Str.{bytes_eq}
use Rattle.txn_program_edges.specs.Words.{AreSome, call_list_of, count_of, id_words}
use Rattle.txn_program_lines.specs.LineWords.{◌>>=◌}
use Rattle.txn_program_runs.specs.declared.run_words.Plans.{Plans}
use Rattle.txn_program_runs.specs.declared.run_words.Layer.{Layer}
use Rattle.txn_program_runs.specs.declared.run_words.Layer.TheVariants as layers
use Rattle.txn_program_runs.specs.declared.run_words.RunCommand.{RunCommand}
use Rattle.txn_program_runs.specs.declared.run_words.RunCommand.TheVariants as commands

-- the ids, over that layer and under these plans
abbrev pub run_of : Layer → Plans → List (List ℕ) → Option RunCommand
run_of layer plans words = do
  ids ← id_words words
  Some (commands.Run layer plans ids)

-- the plans that were spelled
abbrev pub plans_of : Option (List ℕ) → Option (List ℕ) → Plans
plans_of refused starved = record { refused = refused; starved = starved }

-- LIST of the starved calls, and the ids
abbrev pub starving_words : Layer → Option (List ℕ) → List (List ℕ) → Option RunCommand
starving_words layer refused [] = None
starving_words layer refused (word ∷ words) = do
  starved ← call_list_of word
  run_of layer (plans_of refused (Some starved)) words

-- `--starve LIST` and the ids, or without such a plan the ids alone
abbrev pub starving_or : Layer → Option (List ℕ) → List (List ℕ) → Option RunCommand
starving_or layer refused [] = None
starving_or layer refused (word ∷ words) =
    if bytes_eq word (codes "--starve") then starving_words layer refused words
    else run_of layer (plans_of refused None) (word ∷ words)

-- LIST of the refused calls, and what may follow
abbrev pub refusing_words : Layer → List (List ℕ) → Option RunCommand
refusing_words layer [] = None
refusing_words layer (word ∷ words) = do
  refused ← call_list_of word
  starving_or layer (Some refused) words

-- `--refuse LIST` and what may follow, or without such a plan that alone
abbrev pub run_words : Layer → List (List ℕ) → Option RunCommand
run_words layer [] = None
run_words layer (word ∷ words) =
    if bytes_eq word (codes "--refuse") then refusing_words layer words
    else starving_or layer None (word ∷ words)

-- `make N`, with N from 1 to 20,000
abbrev pub make_words : List (List ℕ) → Option RunCommand
make_words (word ∷ []) = do
  count ← count_of 20000 word
  Some (commands.Make count)
make_words words = None

-- the command that the words give
abbrev pub run_command_of : List (List ℕ) → Option RunCommand
run_command_of [] = None
run_command_of (word ∷ words) =
    if bytes_eq word (codes "run") then run_words layers.Open words
    else if bytes_eq word (codes "listen") then run_words layers.Listener words
    else if bytes_eq word (codes "make") then make_words words
    else None

-- a command stays within the limits of the table: a run has an id to draw, and 1 to 20,000
-- transactions are made
abbrev pub IsWithin : Option RunCommand → Type 0
IsWithin None = Unit {0}
IsWithin (Some (commands.Run layer plans ids)) = AreSome ids
IsWithin (Some (commands.Make count)) = (1 ≤ count) × (count ≤ 20000)

-- a command asks for that layer: `listen` for a listener, `run` and `make` for the open one
abbrev pub asks_for : Layer → RunCommand → Bool
asks_for layers.Open (commands.Run layers.Open plans ids) = true
asks_for layers.Open (commands.Make count) = true
asks_for layers.Listener (commands.Run layers.Listener plans ids) = true
asks_for layer command = false

-- the command, where it asks for that layer
abbrev pub command_over : Layer → Option RunCommand → Option RunCommand
command_over layer None = None
command_over layer (Some command) = if asks_for layer command then Some command else None
