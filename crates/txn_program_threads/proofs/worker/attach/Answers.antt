use Rattle.txn_program_threads.proofs.Tallying.{grew-attach}
use Rattle.txn_program_threads.proofs.worker.attach.Goals as goal

pub returns-in-Attached-clause-made : goal.returns-in-Attached-clause-made
returns-in-Attached-clause-made g c =
    grew-attach c.args.worker.now.receipts.items c.make_step.new.worker.receipts.items c.in-Ok.step c.in_ok-link.field-0 c.args.worker.now.number c.in-Attached.link c.requires.first c.in_ok-link.ensures.made c.in-Ok.ensures.step c.in-Attached.is
