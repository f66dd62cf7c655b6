use Rattle.amqp_resource_log.proofs.Words.{Log, ap, frames_of, length, ◌∙◌}
use Rattle.amqp_resource_log.proofs.Frames.{as_many}
use Rattle.amqp_resource_log.proofs.log.ArrivalLog.count.Goals as goal

pub returns : goal.returns
returns c =
    let id = c.args.txn_id.now in
    c.place_count.ensures
    ∙ ap length (c.self.invariant.places id)
    ∙ as_many 0 id c.self.inside.cells.cells
    ∙ ap (λ (log : Log). length (frames_of log id)) c.self.view_is
