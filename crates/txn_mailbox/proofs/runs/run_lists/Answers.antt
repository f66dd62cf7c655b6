use Rattle.txn_mailbox.proofs.Ends.{no-memory, with-source}
use Rattle.txn_mailbox.proofs.runs.run_lists.Goals as goal

pub returns-in-Ok : goal.returns-in-Ok
returns-in-Ok g c = with-source _ _ _ _ _ _ _ _ _ _ _ c.as_slice.result.now c.args.ids c.as_slice.ensures c.in-Ok.ensures.next c.run_drawing.ensures

pub returns-in-Err : goal.returns-in-Err
returns-in-Err g c = rw c.end_unserving.ensures (no-memory _ _ _ _)
