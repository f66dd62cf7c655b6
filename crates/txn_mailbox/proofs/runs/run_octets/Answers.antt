use Rattle.std.proofs.Common.{refl}
use Rattle.txn_program_edges.specs.declared.unserved.Unserved.TheVariants as causes
use Rattle.txn_mailbox.proofs.Ends.{no-memory, unserved}
use Rattle.txn_mailbox.proofs.runs.run_octets.Goals as goal

pub returns-in-Ok : goal.returns-in-Ok
returns-in-Ok g c = let e = rw c.as_slice.ensures at c.in-Ok.ensures.spells in rw e c.run_lists.ensures

pub returns-in-Err-Line : goal.returns-in-Err-Line
returns-in-Err-Line g c =
    let says = c.end_unserved.ensures in
    let e = rw (c.as_slice.ensures, c.in-Err-Line.field-0-is) at c.in-Err-Line.ensures.spells in
    rw (e, c.end_unserving.ensures) (unserved _ _ (causes.Line c.in-Err-Line.number) c.end_unserved.result _ _ _ says.status says.written refl refl)

pub returns-in-Err-NoMemory : goal.returns-in-Err-NoMemory
returns-in-Err-NoMemory g c = rw c.end_unserving-in-Err-NoMemory.ensures (no-memory _ _ _ _)
