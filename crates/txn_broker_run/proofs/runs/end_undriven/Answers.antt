use Rattle.txn_program_runs.proofs.Endings.{without_fault}
use Rattle.txn_broker_run.proofs.runs.end_undriven.Goals as goal

pub returns : goal.returns
returns g c =
    let says = c.end_unserved-status.ensures in
    rw c.end.ensures (record {
      status = says.status;
      runs = tt;
      untouched = λ none. record { journal = c.new.ensures.journal; refusals = c.new.ensures.refusals; vetoes = c.new.ensures.vetoes };
      completes = λ quiet written. without_fault _ _ _ _ says.status written;
      text = says.written;
    })
