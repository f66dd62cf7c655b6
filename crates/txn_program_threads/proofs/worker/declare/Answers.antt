use Rattle.txn_program_threads.specs.WorkerSteps.{declares}
use Rattle.txn_program_threads.proofs.Tallying.{grew-declare}
use Rattle.txn_program_threads.proofs.Working.{declare-no_attach, one-more, told-gained, told-id}
use Rattle.txn_program_threads.proofs.worker.declare.Goals as goal

pub returns-in-Declared-clause-receipts : goal.returns-in-Declared-clause-receipts
returns-in-Declared-clause-receipts g c =
    one-more c.args.worker.now.number c.args.place.now.rounds c.args.worker.now.receipts.items c.make_step.new.worker.receipts.items c.in-Ok.step c.in_ok-id.field-0 c.requires.receipts c.requires.good c.in_ok-id.ensures.made (declares c.args.link c.requires.link c.in-Ok.ensures.step) (declare-no_attach c.args.worker.now.number c.args.link c.in-Ok.step c.in-Ok.ensures.step)

pub returns-in-Declared-clause-id : goal.returns-in-Declared-clause-id
returns-in-Declared-clause-id g c = told-id c.args.worker.now.receipts.items c.make_step.new.worker.receipts.items c.in-Ok.step c.in_ok-id.field-0 c.in-Declared.id c.in_ok-id.ensures.made c.in-Declared.is

pub returns-in-Declared-clause-made : goal.returns-in-Declared-clause-made
returns-in-Declared-clause-made g c =
    grew-declare c.args.worker.now.receipts.items c.make_step.new.worker.receipts.items c.in-Ok.step c.in_ok-id.field-0 c.args.link c.in-Declared.id c.in_ok-id.ensures.made c.in-Ok.ensures.step c.in-Declared.is

-- another reply ends the worker
pub returns-in_default-2 : goal.returns-in_default-2
returns-in_default-2 g c = record {
  ready = c.in_ok-id.ensures.ready;
  kept = c.in_ok-id.ensures.kept;
  receipts = one-more c.args.worker.now.number c.args.place.now.rounds c.args.worker.now.receipts.items c.make_step.new.worker.receipts.items c.in-Ok.step c.in_ok-id.field-0 c.requires.receipts c.requires.good c.in_ok-id.ensures.made (declares c.args.link c.requires.link c.in-Ok.ensures.step) (declare-no_attach c.args.worker.now.number c.args.link c.in-Ok.step c.in-Ok.ensures.step);
  id = tt;
  link = (told-gained c.args.worker.now.receipts.items c.make_step.new.worker.receipts.items c.in-Ok.step c.in_ok-id.field-0 c.in_ok-id.ensures.made).link c.args.link c.requires.link;
  made = tt;
}
