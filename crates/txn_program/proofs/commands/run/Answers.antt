use Rattle.std.proofs.Common.{sym}
use Rattle.txn_program.proofs.Unthreaded.{serves-unthreaded}
use Rattle.txn_program.proofs.commands.run.Goals as goal

pub returns-in-None : goal.returns-in-None
returns-in-None g c =
    serves-unthreaded _ c.args.arguments.now _ _ _ _ _ _ (sym c.in-None.ensures.command) c.run_commands.ensures
