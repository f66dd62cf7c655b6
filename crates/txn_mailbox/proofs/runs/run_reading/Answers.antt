use Rattle.std.proofs.Common.{refl}
use Rattle.txn_program_edges.specs.declared.unserved.Unserved.TheVariants as causes
use Rattle.txn_mailbox.proofs.Ends.{unserved}
use Rattle.txn_mailbox.proofs.runs.run_reading.Goals as goal

pub returns-in-Fault : goal.returns-in-Fault
returns-in-Fault g c = let says = c.end_unserved.ensures in
    rw (c.in-Fault.is, c.end_unserving.ensures) (unserved _ _ causes.ReadFault c.end_unserved.result _ _ _ says.status says.written refl refl)

pub returns-in-TooLong : goal.returns-in-TooLong
returns-in-TooLong g c = let says = c.end_unserved-in-TooLong.ensures in
    rw (c.in-TooLong.is, c.end_unserving-in-TooLong.ensures) (unserved _ _ causes.TooLong c.end_unserved-in-TooLong.result _ _ _ says.status says.written refl refl)

pub returns-in-Whole : goal.returns-in-Whole
returns-in-Whole g c = rw c.in-Whole.is c.run_octets.ensures
