-- A call for which memory ran out before its arguments were read.
use Rattle.std.proofs.Common.{Option, Some, None}
use Rattle.amqp_below_layer.specs.Told.{Told}
use Rattle.amqp_below_recorder.specs.declared.recorder.Recorder.{Recorder}
use Rattle.amqp_below_streams.specs.Streams.{SinkTold, SourceTold}
use Rattle.txn_program_agree.proofs.Unmade.{serves-no_memory as agree-no_memory}
use Rattle.txn_program_runs.proofs.Memory.{served-no_memory}
use Rattle.txn_program.specs.Commands.{Serves, without_threads}
use Rattle.txn_program.specs.declared.commands.Command.{Command}
use Rattle.txn_program.specs.declared.commands.Command.TheVariants as commands

-- whatever the command, such a call serves it, where it isn't `threads`
pub serves-no_memory : {S : Type 0} (told : Recorder S → Told) (command : Option Command) (below : Recorder S) (input : SourceTold) (output : SinkTold)
    → Serves told (without_threads command) below input input output output (record { status = 6; driven = None; entries = None; below = below })
serves-no_memory told None below input output = served-no_memory told None below input output
serves-no_memory told (Some (commands.Run command)) below input output =
    served-no_memory told (Some command) below input output
serves-no_memory told (Some (commands.Agree command)) below input output =
    agree-no_memory told (Some command) below input output
serves-no_memory told (Some (commands.Threads command)) below input output =
    served-no_memory told None below input output
