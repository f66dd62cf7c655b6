-- The words of `threads`.
use Rattle.std.specs.Prelude.{ℕ, ◌≤◌, Option, Some, None, List, [], ◌∷◌, codes, if◌then◌else◌}
use Rattle.std.specs.Str.{bytes_eq}
use Rattle.txn_program_edges.specs.Words.{count_of}
use Rattle.txn_program_lines.specs.LineWords.{◌>>=◌}
use Rattle.txn_program_threads.specs.declared.threads_words.ThreadsCommand.{ThreadsCommand}

-- W and R, with W from 1 to 8 and R from 1 to 1,000
abbrev pub counts_of : List (List ℕ) → Option ThreadsCommand
counts_of (first ∷ second ∷ []) = do
  workers ← count_of 8 first
  rounds ← count_of 1000 second
  Some (record { workers = workers; rounds = rounds })
counts_of words = None

-- `threads W R`
abbrev pub threads_command_of : List (List ℕ) → Option ThreadsCommand
threads_command_of [] = None
threads_command_of (word ∷ words) =
    if bytes_eq word (codes "threads") then counts_of words else None

-- 1 to 8 workers, of 1 to 1,000 rounds each
pub record IsWithin (command : ThreadsCommand) : Type 0 where
  pub some_workers : 1 ≤ command.workers
  pub few_workers : command.workers ≤ 8
  pub some_rounds : 1 ≤ command.rounds
  pub few_rounds : command.rounds ≤ 1000
