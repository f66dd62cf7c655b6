-- What a run of the words of `threads` leaves.
use Rattle.std.specs.Prelude.{ℕ, ◌≡◌, ◌++◌, Some, None, Option, Result, Ok, Err, List, codes}
use Rattle.std.specs.Fmt.{decimal}
use Rattle.amqp_below_layer.specs.Told.{Told}
use Rattle.amqp_below_recorder.specs.Recording.{inner_of}
use Rattle.amqp_below_recorder.specs.declared.recorder.Recorder.{Recorder}
use Rattle.amqp_below_streams.specs.Streams.{SinkTold}
use Rattle.txn_program_edges.specs.Faults.{fault_status, fault_text}
use Rattle.txn_program_edges.specs.Writing.{EndsWith, Wrote}
use Rattle.txn_program_edges.specs.declared.fault.Fault.{Fault}
use Rattle.txn_program_report.specs.Report.{line}
use Rattle.txn_program_runs.specs.Ends.{IsNewRecorder}
use Rattle.txn_program_runs.specs.declared.step_runs.Ran.{Ran}
use Rattle.txn_program_threads.specs.Runs.{RunsThreads}
use Rattle.txn_program_threads.specs.ThreadsWords.{threads_command_of}
use Rattle.txn_program_threads.specs.declared.threads_ran.ThreadsRan.{ThreadsRan}
use Rattle.txn_program_threads.specs.declared.threads_words.ThreadsCommand.{ThreadsCommand}

-- the text, a line each
abbrev pub threads_text : {S : Type 0} → ℕ → ThreadsRan S → List ℕ
threads_text workers ran =
    line (codes "workers " ++ decimal workers)
    ++ line (codes "entries " ++ decimal ran.entries)
    ++ line (codes "commits " ++ decimal ran.commits)
    ++ line (codes "rollbacks " ++ decimal ran.rollbacks)
    ++ line (codes "taken " ++ decimal ran.taken)

-- status and text are those of this run of workers, but for a fault of the sink or out of memory;
-- its history and its recorder are handed back
pub record EndsThreads {S : Type 0} (workers : ℕ) (threads : ThreadsRan S)
    (output written : SinkTold) (ran : Ran S) : Type 0 where
  pub status : EndsWith output.faults written.faults threads.status ran.status
  pub text : Wrote output.written written.written ran.status (threads_text workers threads)
  pub driven : ran.driven ≡ None
  pub entries : ran.entries ≡ Some threads.history
  pub below : ran.below ≡ threads.below

-- a call for a command, over a recorder of which `told` says what it tells, with what the sink
-- tells before and after: the end of one run of its workers
pub record ServesThreads {S : Type 0} (told : Recorder S → Told) (command : ThreadsCommand)
    (output written : SinkTold) (ran : Ran S) : Type 0 where
  pub threads : ThreadsRan S
  pub runs : RunsThreads told command.workers command.rounds threads
  pub ends : EndsThreads command.workers threads output written ran

-- nothing was run: the status with its text, and the recorder as it was
pub record EndsUnserved {S : Type 0} (status : ℕ) (text : List ℕ) (below : Recorder S)
    (output written : SinkTold) (ran : Ran S) : Type 0 where
  pub status_is : EndsWith output.faults written.faults status ran.status
  pub text_is : Wrote output.written written.written ran.status text
  pub driven : ran.driven ≡ None
  pub entries : ran.entries ≡ None
  pub kept : ran.below ≡ below

-- a call for words, none where they are outside the table
abbrev pub ServesWords : {S : Type 0} → (Recorder S → Told) → Option ThreadsCommand → Recorder S
    → SinkTold → SinkTold → Ran S → Type 0
ServesWords told None below output written ran =
    EndsUnserved 2 (codes "usage\n") below output written ran
ServesWords told (Some command) below output written ran =
    ServesThreads told command output written ran

-- the run of a process, for its arguments, or where there were none
abbrev pub EndsProcess : {S : Type 0} → (Recorder S → Told) → Result (List (List ℕ)) Fault
    → Recorder S → SinkTold → SinkTold → Ran S → Type 0
EndsProcess told (Ok words) below output written ran =
    ServesWords told (threads_command_of words) below output written ran
EndsProcess told (Err fault) below output written ran =
    EndsUnserved (fault_status fault) (fault_text fault) below output written ran

-- the same over a new recorder of a layer of which that is a fact
abbrev pub EndsProcessNew : {S : Type 0} → (Recorder S → Told) → (S → Type 0)
    → Result (List (List ℕ)) Fault → SinkTold → SinkTold → Ran S → Type 0
EndsProcessNew {S} told IsLayer arguments output written ran =
    (below : Recorder S) × IsNewRecorder (told below) below × IsLayer (inner_of below)
    × EndsProcess told arguments below output written ran
