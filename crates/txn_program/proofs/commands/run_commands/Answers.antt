use Rattle.txn_program.proofs.Memory.{serves-no_memory}
use Rattle.txn_program.proofs.commands.run_commands.Goals as goal

pub returns-in-Err : goal.returns-in-Err
returns-in-Err g c = rw c.end_without_memory.ensures (serves-no_memory _ _ _ _ _)
