use Rattle.std.proofs.Math.Path.{fun_ext}
use Rattle.txn_program_runs.proofs.Endings.{made_run-ends}
use Rattle.txn_program_runs.proofs.step_runs.run_made.Goals as goal

-- a run of its steps, which goes to its end where nothing is refused
pub returns : goal.returns
returns g c =
    let run = c.run_steps.ensures.run in
    let these = rw (fun_ext c.new-source.ensures.next, c.in-Ok.ensures) at run.runs in
    record {
      run = record {
        status = run.status;
        runs = these;
        untouched = run.untouched;
        rose = run.rose;
        vetoes_rose = run.vetoes_rose;
        completes =
            λ quiet written. made_run-ends c.args.count c.run_steps.result.driven _ _ _ _ c.run_steps.result.status
            c.requires.few these run.rose quiet (rw c.in-Ok.ensures at (run.completes quiet written));
        text = run.text;
        entries = run.entries;
      };
      fixed = c.run_steps.ensures.fixed;
    }
