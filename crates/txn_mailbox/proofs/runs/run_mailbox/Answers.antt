use Rattle.std.proofs.Common.{refl, sym, ◌∙◌}
use Rattle.txn_program_edges.specs.declared.input.Reading.TheVariants as readings
use Rattle.txn_program_edges.specs.declared.unserved.Unserved.TheVariants as causes
use Rattle.txn_mailbox.proofs.Ends.{unread, unserved}
use Rattle.txn_mailbox.proofs.runs.run_mailbox.Goals as goal

pub returns-in-Ok-Some : goal.returns-in-Ok-Some
returns-in-Ok-Some g c = let e = sym c.in-Ok-Some.ensures.ids ∙ c.in-Ok-Some.field-0-is in rw e c.run_input.ensures

pub returns-in-Ok-None : goal.returns-in-Ok-None
returns-in-Ok-None g c =
    let says = c.end_unserved.ensures in
    let e = sym c.in-Ok-None.ensures.ids ∙ c.in-Ok-None.field-0-is in
    rw (e, c.end_unserving.ensures) (record {
      reading = readings.Fault;
      read = refl;
      run = unserved _ _ causes.Usage c.end_unserved.result _ _ _ says.status says.written refl refl;
    })

pub returns-in-Err : goal.returns-in-Err
returns-in-Err g c = rw c.end_unserving-in-Err.ensures (unread _ _ _ _ _)
