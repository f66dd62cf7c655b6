use Rattle.txn_program_agree.proofs.Reaching.{all-out, some-out}
use Rattle.txn_program_agree.proofs.serving.play_out.Goals as goal

-- all events were played
pub returns-in-Ok : goal.returns-in-Ok
returns-in-Ok g c =
    let ends = c.end_made.ensures in
    all-out _ _ _ _ c.args.world c.play.new.world c.args.events c.in-Ok.skipped c.end_made.result
    (rw c.as_slice.ensures at c.in-Ok.ensures.all)
    (rw (c.status_of_stop-status.ensures, c.stop.ensures) at ends.status)
    (ends.written _ c.agree_string-text.ensures) ends.driven ends.entries ends.below

-- memory ran out before
pub returns : goal.returns
returns g c =
    let ends = c.end_midway.ensures in
    some-out _ _ _ c.args.world c.play.new.world c.args.events c.end_midway.result
    (rw c.as_slice.ensures at c.in-Err.ensures.some) ends.status ends.driven ends.entries ends.below
