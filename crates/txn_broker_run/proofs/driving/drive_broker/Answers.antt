use Rattle.std.proofs.Common.{Some, ap, refl, sym, ◌∙◌, ◌≡◌}
use Rattle.txn_broker_queues.specs.Given.{answered}
use Rattle.txn_broker_queues.specs.Taking.{Board, taken_of}
use Rattle.txn_broker_run.proofs.Taken.{is_broker_run}
use Rattle.txn_broker_run.proofs.driving.drive_broker.Goals as goal

-- a drive over a new broker, which answered by its rule
pub returns-clause-run : goal.returns-clause-run
returns-clause-run g c =
    let drove = c.drive-driven.ensures in
    let before = c.new-session.result.below in
    let same = c.new-session.ensures.below in
    let answers : c.into_below-broker.result.journal ≡ answered (taken_of c.into_below-broker.result) =
    sym c.exchanges-exchanges.ensures.journal ∙ c.exchanges-exchanges.ensures.answered in
    rw c.into_below-broker.ensures
    (is_broker_run _ _ c.args.steps c.drive-driven.new.session.below c.drive-driven.result (Some before.journal) before.refusals before.vetoes
    (λ n. refl)
    (ap (λ (b : Board). Some b.journal) same ∙ ap Some c.new.ensures.journal)
    (ap (λ (b : Board). b.refusals) same ∙ c.new.ensures.refusals)
    (ap (λ (b : Board). b.vetoes) same ∙ c.new.ensures.vetoes)
    drove.legal drove.drew.these drove.at drove.steps drove.done drove.cause drove.taken drove.surely
    (rw c.into_below-broker.ensures at answers)
    drove.rose drove.vetoes_rose)
