use Rattle.std.proofs.Common.{arith}
use Rattle.txn_relay.proofs.Had.{all-more, all-none, skipped-few, some-had}
use Rattle.txn_program_parties.proofs.OneEvent.{on_err, passes, skips}
use Rattle.txn_relay.proofs.playing.play.Goals as goal
use Rattle.txn_relay.proofs.playing.play.Goals.{in-Skipped, in_default}

-- it had none
pub loop-event-init : goal.loop-event-init
loop-event-init c = all-none _ c.args.relay.now c.args.events.now

-- it had one more
pub loop-event-preserved : goal.loop-event-preserved
loop-event-preserved c =
    let more = all-more _ c.args.relay.now c.loop-event.relay c.event.new.self c.args.events.now c.loop-event.event-index c.loop-event.skipped c.match-branch-2.skipped _ _ c.loop-event-test.true c.loop-event.invariant c.in_ok-event.ensures.happens in
    elim c.match-branch-2.branch [
      | in-Skipped w ↦ more (skips _ _ _ w.skipped-is w.in-Skipped.is)
      | in_default w ↦ more (passes _ _ _ w.skipped-is w.in_default.not-Skipped)
    ]

-- it had those before the event at which memory ran out
pub returns-in_err-event-clause-some : goal.returns-in_err-event-clause-some
returns-in_err-event-clause-some c =
    on_err c.from_residual.result _
    (some-had _ c.args.relay.now c.loop-event.relay c.event.new.self c.args.events.now c.loop-event.event-index c.loop-event.skipped _ c.loop-event-test.true c.loop-event.invariant c.in_err-event.ensures.err)

-- no more were skipped than it had
pub overflow_add-skipped : goal.overflow_add-skipped
overflow_add-skipped c =
    let within = c.loop-event-test.true in
    let few = skipped-few _ c.args.relay.now c.loop-event.relay c.args.events.now c.loop-event.event-index c.loop-event.skipped (omega (arith, within)) c.loop-event.invariant in
    omega (arith, few, within)
