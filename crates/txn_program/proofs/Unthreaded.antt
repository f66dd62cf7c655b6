-- Arguments that don't ask for threads.
use Rattle.std.proofs.Common.{◌≡◌, refl, subst, List, ℕ, Option, Some, None}
use Rattle.amqp_below_layer.specs.Told.{Told}
use Rattle.amqp_below_recorder.specs.declared.recorder.Recorder.{Recorder}
use Rattle.amqp_below_streams.specs.Streams.{SinkTold, SourceTold}
use Rattle.txn_program_agree.specs.AgreeWords.{agree_command_of}
use Rattle.txn_program_agree.specs.declared.agree_words.AgreeCommand.{AgreeCommand}
use Rattle.txn_program_runs.specs.RunWords.{run_command_of}
use Rattle.txn_program_runs.specs.declared.run_words.RunCommand.{RunCommand}
use Rattle.txn_program_runs.specs.declared.step_runs.Ran.{Ran}
use Rattle.txn_program_threads.specs.ThreadsWords.{threads_command_of}
use Rattle.txn_program_threads.specs.declared.threads_words.ThreadsCommand.{ThreadsCommand}
use Rattle.txn_program.specs.Commands.{Serves, command_of, of_agree, of_run, of_threads, or_else, without_threads}

-- a run of steps or of two parties isn't `threads`
without-others : (steps : Option RunCommand) (parties : Option AgreeCommand)
    → without_threads (or_else (of_run steps) (of_agree parties)) ≡ or_else (of_run steps) (of_agree parties)
without-others (Some command) parties = refl
without-others None (Some command) = refl
without-others None None = refl

-- nor is the command of words that give none of workers
without-unthreaded : (workers : Option ThreadsCommand) (steps : Option RunCommand) (parties : Option AgreeCommand)
    → workers ≡ None
    → without_threads (or_else (of_threads workers) (or_else (of_run steps) (of_agree parties))) ≡ or_else (of_threads workers) (or_else (of_run steps) (of_agree parties))
without-unthreaded workers steps parties none = rw none (without-others steps parties)

-- so what serves the other commands serves such words
pub serves-unthreaded : {S : Type 0} (told : Recorder S → Told) (words : List (List ℕ)) (below : Recorder S) (input left : SourceTold) (output written : SinkTold) (ran : Ran S)
    → threads_command_of words ≡ None
    → Serves told (without_threads (command_of words)) below input left output written ran → Serves told (command_of words) below input left output written ran
serves-unthreaded told words below input left output written ran none serves =
    subst (λ command. Serves told command below input left output written ran) (without-unthreaded (threads_command_of words) (run_command_of words) (agree_command_of words) none) serves
