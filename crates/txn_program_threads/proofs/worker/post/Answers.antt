use Rattle.txn_program_threads.specs.WorkerSteps.{posts}
use Rattle.txn_program_threads.proofs.Tallying.{grew-post}
use Rattle.txn_program_threads.proofs.Working.{one-more, post-no_attach, told-gained}
use Rattle.txn_program_threads.proofs.worker.post.Goals as goal

pub returns-in-Frames-clause-receipts : goal.returns-in-Frames-clause-receipts
returns-in-Frames-clause-receipts g c =
    one-more c.args.worker.now.number c.args.place.now.rounds c.args.worker.now.receipts.items c.make_step.new.worker.receipts.items c.in-Ok.step c.in_ok-make_step.field-0 c.requires.receipts c.requires.good c.in_ok-make_step.ensures.made (posts c.args.id c.args.delivery c.requires.id c.requires.delivery c.in-Ok.ensures.step) (post-no_attach c.args.worker.now.number c.args.worker.now.number c.args.delivery c.args.id c.in-Ok.step c.in-Ok.ensures.step)

pub returns-in-Frames-clause-made : goal.returns-in-Frames-clause-made
returns-in-Frames-clause-made g c =
    grew-post c.args.worker.now.receipts.items c.make_step.new.worker.receipts.items c.in-Ok.step c.in_ok-make_step.field-0 c.args.worker.now.number c.args.delivery c.args.id c.in-Frames.field-0 c.in_ok-make_step.ensures.made c.in-Ok.ensures.step c.in-Frames.is

-- another reply ends the worker
pub returns-in_default-2 : goal.returns-in_default-2
returns-in_default-2 g c = record {
  ready = c.in_ok-make_step.ensures.ready;
  kept = c.in_ok-make_step.ensures.kept;
  receipts = one-more c.args.worker.now.number c.args.place.now.rounds c.args.worker.now.receipts.items c.make_step.new.worker.receipts.items c.in-Ok.step c.in_ok-make_step.field-0 c.requires.receipts c.requires.good c.in_ok-make_step.ensures.made (posts c.args.id c.args.delivery c.requires.id c.requires.delivery c.in-Ok.ensures.step) (post-no_attach c.args.worker.now.number c.args.worker.now.number c.args.delivery c.args.id c.in-Ok.step c.in-Ok.ensures.step);
  told = told-gained c.args.worker.now.receipts.items c.make_step.new.worker.receipts.items c.in-Ok.step c.in_ok-make_step.field-0 c.in_ok-make_step.ensures.made;
  made = tt;
}
