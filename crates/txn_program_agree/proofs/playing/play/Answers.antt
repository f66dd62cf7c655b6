use Rattle.txn_program_agree.proofs.EachEvent.{all-more, all-none, skipped-few, some-played}
use Rattle.txn_program_parties.proofs.OneEvent.{on_err, passes, skips}
use Rattle.txn_program_agree.proofs.playing.play.Goals as goal
use Rattle.txn_program_agree.proofs.playing.play.Goals.{in-Skipped, in_default}
use Rattle.std.proofs.Common.{arith}

-- none was played
pub loop-event-init : goal.loop-event-init
loop-event-init g c = all-none g.S.Tells.told g.G.IdSource.next g.S.LayerBelow.sure c.args.world.now c.args.events.now c.requires.begun

-- one more was
pub loop-event-preserved : goal.loop-event-preserved
loop-event-preserved g c =
    let more = all-more g.S.Tells.told g.G.IdSource.next g.G.IdSource.start g.S.LayerBelow.sure c.args.world.now c.loop-event.world c.event.new.self c.args.events.now c.loop-event.event-index c.loop-event.skipped c.match-branch-2.skipped _ _ c.loop-event-test.true c.event-item.is c.loop-event.invariant c.in_ok-event.ensures in
    elim c.match-branch-2.branch [
      | in-Skipped w ↦ more (skips _ _ _ w.skipped-is w.in-Skipped.is)
      | in_default w ↦ more (passes _ _ _ w.skipped-is w.in_default.not-Skipped)
    ]

-- those before the event at which memory ran out were
pub returns-in_err-event-clause-some : goal.returns-in_err-event-clause-some
returns-in_err-event-clause-some g c =
    on_err c.from_residual.result _
    (some-played g.S.Tells.told g.G.IdSource.next g.G.IdSource.start g.S.LayerBelow.sure c.args.world.now c.loop-event.world c.event.new.self c.args.events.now c.loop-event.event-index c.loop-event.skipped _ _ (let within = c.loop-event-test.true in omega (arith, within)) c.loop-event.invariant c.in_err-event.ensures)

-- there are no more skipped ones than played ones
pub overflow_add-skipped : goal.overflow_add-skipped
overflow_add-skipped g c =
    let within = c.loop-event-test.true in
    let count = c.requires.few in
    let few = skipped-few g.S.Tells.told g.G.IdSource.next g.S.LayerBelow.sure c.args.world.now c.loop-event.world c.args.events.now c.loop-event.event-index c.loop-event.skipped (omega (arith, within)) c.loop-event.invariant in
    omega (arith, few, within, count)
