use Rattle.std.proofs.Common.{◌≡◌, Option, Some, None}
use Rattle.std.specs.Prelude.{IsNone}
use Rattle.txn_program_runs.proofs.Endings.{quiet_run-ends, without_fault}
use Rattle.txn_program_runs.proofs.step_runs.run_steps.Goals as goal

some_none : {A : Type 0} (o : Option A) (x : A) → o ≡ Some x → IsNone o → ⊥
some_none None x is none = cc is
some_none (Some y) x is none = cc none

pub returns : goal.returns
returns g c =
    let says = c.end_run.ensures in
    let drove = c.drive_steps-driven in
    record {
      run = record {
        status = rw says.driven says.status;
        runs = rw (says.driven, says.below) drove.ensures.record;
        untouched = λ none. absurd (some_none _ _ says.driven none);
        rose = rw (says.driven, says.below) drove.ensures.rose;
        vetoes_rose = rw (says.driven, says.below) drove.ensures.vetoes_rose;
        completes =
            rw (says.driven, says.below)
            (λ quiet written. quiet_run-ends c.args.steps drove.result.driven c.end_run.result.status _ _
            drove.ensures.rose quiet drove.ensures.record.cause
            (without_fault _ _ _ _ says.status written));
        text = rw (says.driven, says.below) (says.written _ c.run_text-text.ensures);
        entries = says.entries;
      };
      fixed = rw says.below drove.ensures.fixed;
    }
