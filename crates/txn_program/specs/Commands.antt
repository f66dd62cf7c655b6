-- The commands of the program, and the one contract of its top calls, by cases of the command.
use Rattle.std.specs.Prelude.{ℕ, ◌≡◌, Bool, true, false, Option, Some, None, List}
use Rattle.amqp_below_layer.specs.Told.{Told}
use Rattle.amqp_below_recorder.specs.declared.recorder.Recorder.{Recorder}
use Rattle.amqp_below_streams.specs.Streams.{SinkTold, SourceTold}
use Rattle.txn_program_agree.specs.AgreeWords.{agree_command_of, IsWithin as IsAgreeWithin}
use Rattle.txn_program_agree.specs.Serving.{ServesAgree}
use Rattle.txn_program_agree.specs.declared.agree_words.AgreeCommand.{AgreeCommand}
use Rattle.txn_program_runs.specs.RunWords.{run_command_of, IsWithin as IsRunWithin}
use Rattle.txn_program_runs.specs.Serving.{ServesRun}
use Rattle.txn_program_runs.specs.declared.run_words.RunCommand.{RunCommand}
use Rattle.txn_program_runs.specs.declared.step_runs.Ran.{Ran}
use Rattle.txn_program_threads.specs.Ends.{ServesThreads}
use Rattle.txn_program_threads.specs.ThreadsWords.{threads_command_of, IsWithin as IsThreadsWithin}
use Rattle.txn_program_threads.specs.declared.threads_words.ThreadsCommand.{ThreadsCommand}
use Rattle.txn_program.specs.declared.commands.Command.{Command}
use Rattle.txn_program.specs.declared.commands.Command.TheVariants as commands

-- a command of runs
abbrev pub of_run : Option RunCommand → Option Command
of_run None = None
of_run (Some command) = Some (commands.Run command)

-- a command of two parties
abbrev pub of_agree : Option AgreeCommand → Option Command
of_agree None = None
of_agree (Some command) = Some (commands.Agree command)

-- a command of workers in threads
abbrev pub of_threads : Option ThreadsCommand → Option Command
of_threads None = None
of_threads (Some command) = Some (commands.Threads command)

-- the first that is there
abbrev pub or_else : Option Command → Option Command → Option Command
or_else None other = other
or_else (Some command) other = Some command

-- the command that the arguments give
abbrev pub command_of : List (List ℕ) → Option Command
command_of arguments =
    or_else (of_threads (threads_command_of arguments))
    (or_else (of_run (run_command_of arguments)) (of_agree (agree_command_of arguments)))

-- a command stays within the limits of the table
abbrev pub IsWithin : Option Command → Type 0
IsWithin None = Unit {0}
IsWithin (Some (commands.Run command)) = IsRunWithin (Some command)
IsWithin (Some (commands.Agree command)) = IsAgreeWithin (Some command)
IsWithin (Some (commands.Threads command)) = IsThreadsWithin command

-- the command is `threads`
abbrev pub is_threads : Option Command → Bool
is_threads (Some (commands.Threads command)) = true
is_threads command = false

-- the command, where it isn't `threads`
abbrev pub without_threads : Option Command → Option Command
without_threads (Some (commands.Threads command)) = None
without_threads command = command

-- a call for a command, none for arguments outside the table: over a recorder, of which `told` says
-- what it tells, with what the source tells before and after, and the sink
abbrev pub Serves : {S : Type 0} → (Recorder S → Told) → Option Command → Recorder S → SourceTold
    → SourceTold → SinkTold → SinkTold → Ran S → Type 0
-- outside the table: usage, as of a run
Serves told None below input left output written ran =
    ServesRun told None below input left output written ran
-- `run`, `listen` and `make`
Serves told (Some (commands.Run command)) below input left output written ran =
    ServesRun told (Some command) below input left output written ran
-- `agree`
Serves told (Some (commands.Agree command)) below input left output written ran =
    ServesAgree told (Some command) below input left output written ran
-- `threads`, which reads nothing
Serves told (Some (commands.Threads command)) below input left output written ran =
    (left ≡ input) × ServesThreads told command output written ran
