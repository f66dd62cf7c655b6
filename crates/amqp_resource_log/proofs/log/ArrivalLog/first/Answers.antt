use Rattle.amqp_resource_log.proofs.Words.{ap, places, slice_get, ◌∙◌}
use Rattle.amqp_resource_log.proofs.Frames.{first_is_live}
use Rattle.amqp_resource_log.proofs.log.ArrivalLog.first.Goals as goal

pub returns-clause-live : goal.returns-clause-live
returns-clause-live c =
    let id = c.args.txn_id.now in
    first_is_live id c.args.self.now c.first_place.result (c.first_place.ensures ∙ ap (λ ns. slice_get ns 0) (c.self.invariant.places id) ∙ ap (λ log. slice_get (places log id) 0) c.self.view_is)
