use Rattle.amqp_resource_log.proofs.Words.{Log, ap, frames_of, sym, ◌∙◌}
use Rattle.amqp_resource_log.proofs.Emptied.{emptied_none}
use Rattle.amqp_resource_log.proofs.Frames.{no_places}
use Rattle.amqp_resource_log.proofs.Indexing.{ends_id, indexed_ended}
use Rattle.amqp_resource_log.proofs.log.ArrivalLog.end.Goals as goal

pub invariant_of-self : goal.invariant_of-self
invariant_of-self c =
    let id = c.args.txn_id.now in
    let none = no_places 0 id c.self.inside.cells.cells (ap (λ (log : Log). frames_of log id) c.self.view_is ∙ c.requires) in
    indexed_ended id c.self.inside.cells.cells _ c.self.inside.index.entries _ c.self.inside.dead _ c.self.invariant c.take_id-places.ensures.without (sym (emptied_none 0 id c.self.inside.cells.cells none)) c.self.invariant.gone

pub returns-clause-ended : goal.returns-clause-ended
returns-clause-ended c =
    let id = c.args.txn_id.now in
    let none = no_places 0 id c.self.inside.cells.cells (ap (λ (log : Log). frames_of log id) c.self.view_is ∙ c.requires) in
    ends_id id c.self.inside.cells.cells _ c.self.inside.index.entries c.take_id-places.new.index.entries _ _ c.args.self.now c.self.view_is (sym (emptied_none 0 id c.self.inside.cells.cells none)) c.take_id-places.ensures.without c.take_id-places.ensures.room
