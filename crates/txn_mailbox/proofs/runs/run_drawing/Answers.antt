use Rattle.std.proofs.Common.{rules}
use Rattle.txn_mailbox.proofs.Ends.{no-memory, of-served}
use Rattle.txn_mailbox.proofs.runs.run_drawing.Goals as goal

pub returns-in-Ok : goal.returns-in-Ok
returns-in-Ok g c = of-served _ _ _ _ _ _ _ c.end_served.ensures (record {
  session = c.new-session.result;
  fresh = search rules;
  recorder = search rules;
  keeps = c.in-Ok.ensures.keeps;
  serves = c.in-Ok.ensures.serves;
})

pub returns-in-Err : goal.returns-in-Err
returns-in-Err g c = rw c.end_unserving.ensures (no-memory _ _ _ _)
