use Rattle.amqp_resource_log.proofs.Words.{Live, ap, frames_of, is_some, is_some-lookup, kept, lookup, same_id, sym, ◌∙◌}
use Rattle.amqp_resource_log.proofs.Live.{is_kept}
use Rattle.amqp_resource_log.proofs.live_work.LiveWork.is_live.Goals as goal

pub returns : goal.returns
returns c =
    let id = c.args.txn_id.now in
    let log = c.self.inside.log in
    c.is_live.ensures ∙ sym (is_some-lookup (same_id id) log.homes) ∙ is_kept (frames_of log id) (lookup (same_id id) log.homes)
    ∙ ap (λ (live : Live). is_some (kept live id)) c.self.view_is
