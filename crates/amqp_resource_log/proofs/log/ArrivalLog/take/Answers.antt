use Rattle.amqp_resource_log.proofs.Words.{Log, ap, arith, cond, count_by, is_dead_cell, is_some, places_from, same_id, subst, sym, without_place, work_at, work_in, zero-add, ◌+◌, ◌<◌, ◌^◌, ◌∙◌}
use Rattle.amqp_resource_log.proofs.Frames.{dead-fits}
use Rattle.amqp_resource_log.proofs.Placed.{places-taken, dead-taken, work-below}
use Rattle.amqp_resource_log.proofs.log.ArrivalLog.take.Goals as goal

pub overflow_add-self : goal.overflow_add-self
overflow_add-self g c =
    let cs = c.self.inside.cells.cells in
    let small : c.self.inside.dead + 1 < 2 ^ 64 = subst (λ n. n + 1 < 2 ^ 64) (sym c.self.invariant.gone) (dead-fits c.args.place c.take-txn_id.result.0 c.take-txn_id.result.1 cs c.take-txn_id.ensures.taken c.take-txn_id.ensures.small) in
    omega (arith, small)

pub invariant_of-self : goal.invariant_of-self
invariant_of-self g c =
    let cs = c.self.inside.cells.cells in
    let i = c.args.place in
    let id = c.take-txn_id.result.0 in
    let work = c.take-txn_id.result.1 in
    let at = c.take-txn_id.ensures.taken in
    let below = work-below cs i (ap (λ o. is_some (work_in o)) at) in
    let after = c.take-txn_id.ensures.cells in
    record {
      places = λ t.
          c.drop_place.ensures.written.places t
          ∙ ap (λ ms. cond (same_id t id) (without_place i ms) ms) (c.self.invariant.places t)
          ∙ ap (λ n. cond (same_id t id) (without_place n (places_from 0 t cs)) (places_from 0 t cs)) (sym (zero-add i))
          ∙ sym (places-taken 0 i t id work cs at)
          ∙ ap (λ xs. places_from 0 t xs) (sym after);
      gone = ap (λ n. n + 1) c.self.invariant.gone ∙ sym (dead-taken i id work cs below at) ∙ ap (λ xs. count_by is_dead_cell xs) (sym after);
    }

pub returns-clause-work : goal.returns-clause-work
returns-clause-work g c = sym (ap work_in c.take-txn_id.ensures.taken) ∙ ap (λ (log : Log). work_at log.cells c.args.place) c.self.view_is
