use Rattle.amqp_resource_log.proofs.Words.{◌∙◌}
use Rattle.amqp_resource_log.proofs.Indexing.{ends_id, indexed_ended}
use Rattle.amqp_resource_log.proofs.log.ArrivalLog.drop_all.Goals as goal

pub drop_places-requires-clause-places : goal.drop_places-requires-clause-places
drop_places-requires-clause-places g c = c.take_id-places.ensures.places ∙ c.self.invariant.places c.args.txn_id.now

pub invariant_of-self : goal.invariant_of-self
invariant_of-self g c =
    indexed_ended c.args.txn_id.now c.self.inside.cells.cells _ c.self.inside.index.entries _ c.self.inside.dead _ c.self.invariant c.take_id-places.ensures.without c.drop_places.ensures.cells c.drop_places.ensures.dead

pub returns-clause-ended : goal.returns-clause-ended
returns-clause-ended g c =
    ends_id c.args.txn_id.now c.self.inside.cells.cells _ c.self.inside.index.entries c.take_id-places.new.index.entries _ _ c.args.self.now c.self.view_is c.drop_places.ensures.cells c.take_id-places.ensures.without c.take_id-places.ensures.room
