use Rattle.txn_program_threads.specs.WorkerSteps.{discharges}
use Rattle.txn_program_threads.proofs.Working.{discharge-no_attach, one-more, told-gained}
use Rattle.txn_program_threads.proofs.worker.discharge.Goals as goal

pub returns-in-Accepted-clause-receipts : goal.returns-in-Accepted-clause-receipts
returns-in-Accepted-clause-receipts g c =
    one-more c.args.worker.now.number c.args.place.now.rounds c.args.worker.now.receipts.items c.make_step.new.worker.receipts.items c.in-Ok.step c.in_ok-make_step.field-0 c.requires.receipts c.requires.good c.in_ok-make_step.ensures.made (discharges c.args.link c.args.id c.args.round c.requires.link c.requires.id c.requires.round.0 c.requires.round.1 c.in-Ok.ensures.step) (discharge-no_attach c.args.worker.now.number c.args.link c.args.round c.args.id c.in-Ok.step c.in-Ok.ensures.step)

-- another reply ends the worker
pub returns-in_default-2 : goal.returns-in_default-2
returns-in_default-2 g c = record {
  ready = c.in_ok-make_step.ensures.ready;
  kept = c.in_ok-make_step.ensures.kept;
  receipts = one-more c.args.worker.now.number c.args.place.now.rounds c.args.worker.now.receipts.items c.make_step.new.worker.receipts.items c.in-Ok.step c.in_ok-make_step.field-0 c.requires.receipts c.requires.good c.in_ok-make_step.ensures.made (discharges c.args.link c.args.id c.args.round c.requires.link c.requires.id c.requires.round.0 c.requires.round.1 c.in-Ok.ensures.step) (discharge-no_attach c.args.worker.now.number c.args.link c.args.round c.args.id c.in-Ok.step c.in-Ok.ensures.step);
  told = told-gained c.args.worker.now.receipts.items c.make_step.new.worker.receipts.items c.in-Ok.step c.in_ok-make_step.field-0 c.in_ok-make_step.ensures.made;
  made = tt;
}
