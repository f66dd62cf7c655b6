use Rattle.amqp_resource_log.proofs.Words.{[], ap, length, ◌++◌, ◌∙◌, ◌∷◌}
use Rattle.amqp_resource_log.specs.declared.cell.Cell.TheVariants as cells
use Rattle.amqp_resource_log.proofs.Indexing.{indexed_arrived}
use Rattle.amqp_resource_log.proofs.log.ArrivalLog.append.Goals as goal

pub invariant_of-self-2 : goal.invariant_of-self-2
invariant_of-self-2 c =
    indexed_arrived c.args.txn_id.now c.args.work c.self.inside.cells.cells _ c.self.inside.index.entries _ c.self.inside.dead c.len.result c.add_place.result
    c.self.invariant c.add_place.ensures.written (cc (c.in-Ok-true.is, c.in-Ok-true.field-0-test)) (c.len.ensures ∙ ap length c.reserve.ensures.cells)
    (c.push.ensures ∙ ap (λ xs. xs ++ cells.Live c.args.txn_id.now c.args.work ∷ []) c.reserve.ensures.cells)
