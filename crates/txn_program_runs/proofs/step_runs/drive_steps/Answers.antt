use Rattle.std.proofs.Common.{rules, Some, refl}
use Rattle.txn_program_runs.proofs.Runs.{is_run}
use Rattle.txn_program_runs.proofs.step_runs.drive_steps.Goals as goal

pub returns-clause-record : goal.returns-clause-record
returns-clause-record g c =
    let drove = c.drive-driven.ensures in
    rw c.into_below.ensures (is_run _ _ c.args.steps _ c.drive-driven.result (Some c.new-session.result.below.exchanges) (Some c.new-session.result.below.opened) (Some c.new-session.result.below.refused) (Some c.new-session.result.below.vetoed) (Some c.args.below.vetoed) (λ n. refl) (search rules) (search rules) (search rules) (search rules) drove.legal drove.at drove.steps drove.drew.these drove.done drove.cause drove.taken drove.opened drove.refused drove.vetoed)
