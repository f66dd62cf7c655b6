use Rattle.txn_program_threads.proofs.Working.{of-number}
use Rattle.txn_program_threads.proofs.worker.make_rounds.Goals as goal

pub returns-clause-receipts : goal.returns-clause-receipts
returns-clause-receipts g c =
    of-number c.loop-made.worker.number c.args.worker.now.number c.args.place.now.rounds c.loop-made.worker.receipts.items c.loop-made.invariant.number c.loop-made.invariant.receipts
