use Rattle.txn_program_threads.proofs.Replying.{never-closed}
use Rattle.txn_program_threads.proofs.worker.step_under_lock.Goals as goal

pub returns-in-Ok-clause-made : goal.returns-in-Ok-clause-made
returns-in-Ok-clause-made g c = never-closed _ _ c.args.step.now c.in-Ok.receipt c.requires c.in-Ok.ensures.made
