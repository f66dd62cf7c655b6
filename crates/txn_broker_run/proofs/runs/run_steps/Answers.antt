use Rattle.std.proofs.Common.{◌≡◌, Option, Some, None}
use Rattle.std.specs.Prelude.{IsNone}
use Rattle.txn_program_runs.proofs.Endings.{quiet_run-ends, without_fault}
use Rattle.txn_broker_run.proofs.runs.run_steps.Goals as goal

some_none : {A : Type 0} (o : Option A) (x : A) → o ≡ Some x → IsNone o → ⊥
some_none None x is none = cc is
some_none (Some y) x is none = cc none

pub returns : goal.returns
returns g c =
    let says = c.end_run.ensures in
    let drove = c.drive_broker-driven in
    record {
      status = rw says.driven says.status;
      runs = rw (says.driven, says.broker) drove.ensures.run;
      untouched = λ none. absurd (some_none _ _ says.driven none);
      completes =
          rw (says.driven, says.broker)
          (λ quiet written. quiet_run-ends c.args.steps drove.result.driven c.end_run.result.status 0 drove.result.broker.refusals
          drove.ensures.run.rose quiet drove.ensures.run.cause
          (without_fault _ _ _ _ says.status written));
      text = rw (says.driven, says.broker) (says.written _ c.broker_report-text.ensures);
    }
