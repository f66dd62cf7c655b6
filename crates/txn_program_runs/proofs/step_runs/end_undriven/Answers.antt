use Rattle.std.proofs.Common.{refl}
use Rattle.txn_program_runs.proofs.Endings.{without_fault}
use Rattle.txn_program_runs.proofs.step_runs.end_undriven.Goals as goal

pub returns : goal.returns
returns g c =
    let says = c.end_unserved-status.ensures in
    rw c.end.ensures (record {
      run = record {
        status = says.status;
        runs = tt;
        untouched = λ none. record { taken = refl; opened = refl; refused = refl; refusals = refl; reviews = refl };
        rose = tt;
        vetoes_rose = tt;
        completes = λ quiet written. without_fault _ _ _ _ says.status written;
        text = says.written;
        entries = refl;
      };
      fixed = refl;
    })
