use Rattle.amqp_resource_log.proofs.Words.{Bool, IfOk, NoMemory, Ok, Result, [], ap, false, is_live, is_some, length, lookup, same_id, subst, true, ◌++◌, ◌∙◌, ◌∷◌, ◌≡◌}
use Rattle.amqp_resource_log.specs.declared.cell.Cell.TheVariants as cells
use Rattle.amqp_resource_log.proofs.Indexing.{indexed_arrived, opened_if}
use Rattle.amqp_resource_log.proofs.Kept.{opened_here}
use Rattle.amqp_resource_log.proofs.log.ArrivalLog.keep.Goals as goal

pub invariant_of-self-in-Ok-true : goal.invariant_of-self-in-Ok-true
invariant_of-self-in-Ok-true c =
    indexed_arrived c.args.txn_id.now c.args.work c.self.inside.cells.cells _ c.self.inside.index.entries _ c.self.inside.dead c.len.result c.add_place.result
    c.self.invariant c.add_place.ensures.written (cc (c.in-Ok-true.is, c.in-Ok-true.field-0-test)) (c.len.ensures ∙ ap length c.reserve.ensures.cells)
    (c.push.ensures ∙ ap (λ xs. xs ++ cells.Live c.args.txn_id.now c.args.work ∷ []) c.reserve.ensures.cells)

pub returns-in-Ok-true-clause-live : goal.returns-in-Ok-true-clause-live
returns-in-Ok-true-clause-live c =
    let id = c.args.txn_id.now in
    let old = c.self.inside.index.entries in
    let is : c.add_place.result ≡ Ok true = cc (c.in-Ok-true.is, c.in-Ok-true.field-0-test) in
    opened_if (Ok true) (is_some (lookup (same_id id) old)) (is_live c.args.self.now id)
    (subst (λ (r : Result Bool NoMemory). IfOk r (λ opened. opened ≡ is_some (lookup (same_id id) old))) is c.add_place.ensures.ok)
    (opened_here old id ∙ ap (λ log. is_live log id) c.self.view_is)

pub returns-in-Ok-false-clause-live : goal.returns-in-Ok-false-clause-live
returns-in-Ok-false-clause-live c =
    let id = c.args.txn_id.now in
    let old = c.self.inside.index.entries in
    let is : c.add_place.result ≡ Ok false = cc (c.in-Ok-false.is, c.in-Ok-false.field-0-test) in
    opened_if (Ok false) (is_some (lookup (same_id id) old)) (is_live c.args.self.now id)
    (subst (λ (r : Result Bool NoMemory). IfOk r (λ opened. opened ≡ is_some (lookup (same_id id) old))) is c.add_place.ensures.ok)
    (opened_here old id ∙ ap (λ log. is_live log id) c.self.view_is)
