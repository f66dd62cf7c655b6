use Rattle.txn_program_agree.proofs.Reaching.{plays_out-agrees}
use Rattle.txn_program_agree.proofs.Unmade.{unattached-agrees}
use Rattle.txn_program_agree.proofs.serving.agree_on_events.Goals as goal

-- two parties played the events
pub returns-in-Ok-new : goal.returns-in-Ok-new
returns-in-Ok-new g c =
    plays_out-agrees _ _ _ _ _ c.args.below c.in-Ok.source c.args.ids c.args.controllers c.in-Ok-new.world c.args.events c.play_out.result
    (rw c.as_slice.ensures at c.in-Ok.ensures.next) c.in-Ok-new.ensures c.play_out.ensures

-- the attach of a control link was refused
pub returns : goal.returns
returns g c =
    let began = c.in-Err.ensures in
    let ends = c.end_refused.ensures in
    unattached-agrees _ _ _ c.args.below c.in-Err.below c.args.ids c.args.controllers c.args.events c.in-AttachRefused.error c.end_refused.result
    began.0 (rw c.in-AttachRefused.is at began.1) ends.status ends.written ends.driven ends.entries ends.below
