use Rattle.std.proofs.Common.{◌∙◌}
use Rattle.txn_program_threads.proofs.Working.{of-number}
use Rattle.txn_program_threads.proofs.worker.make_round.Goals as goal

pub returns-clause-receipts : goal.returns-clause-receipts
returns-clause-receipts g c =
    of-number c.post-2.new.worker.number c.args.worker.now.number c.args.place.now.rounds c.discharge.new.worker.receipts.items
    (c.post-2.ensures.kept.0 ∙ (c.post.ensures.kept.0 ∙ c.declare.ensures.kept.0)) c.discharge.ensures.receipts
