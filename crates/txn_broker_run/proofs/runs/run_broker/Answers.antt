use Rattle.txn_broker_run.proofs.Memory.{served-no_memory}
use Rattle.txn_broker_run.proofs.runs.run_broker.Goals as goal

-- whatever the words ask for, memory ran out before anything was done
pub returns-in-Err : goal.returns-in-Err
returns-in-Err g c =
    rw c.end_without_memory.ensures
    (served-no_memory _ c.new.result _ _ (record { journal = c.new.ensures.journal; refusals = c.new.ensures.refusals; vetoes = c.new.ensures.vetoes }))
