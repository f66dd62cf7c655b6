use Rattle.amqp_resource_log.proofs.Words.{ap, arith, cond, count_by, drop, emptied, frame_of_work, frames_in, is_dead_cell, is_some, nat_list_eq_equiv, places_from, refl, slice_get, slice_set, subst, sym, work_in, ◌+◌, ◌<◌, ◌^◌, ◌∙◌, ◌∷◌, ◌≡◌}
use Rattle.amqp_resource_log.specs.declared.cell.Cell.TheVariants as cells
use Rattle.amqp_resource_log.proofs.Emptied.{emptied_taken}
use Rattle.amqp_resource_log.proofs.Frames.{dead-fits, none_kept, took_first}
use Rattle.amqp_resource_log.proofs.Placed.{dead-taken, places-first, work-below}
use Rattle.amqp_resource_log.proofs.Places.{popped}
use Rattle.amqp_resource_log.proofs.removal.take_next.Goals as goal

pub returns-in-None-clause-none : goal.returns-in-None-clause-none
returns-in-None-clause-none g c =
    let first = popped c.args.places.now.items c.pop_front.new.self.items c.pop_front.result c.pop_front.ensures.items c.pop_front.ensures.rest in
    (none_kept 0 c.args.id c.args.cells.now.cells (ap (λ ns. slice_get ns 0) (sym c.requires.places) ∙ sym first ∙ c.in-None.is), refl)

pub take-work-requires : goal.take-work-requires
take-work-requires g c =
    let first = ap (λ ns. slice_get ns 0) (sym c.requires.places ∙ c.in-Some.ensures.items) in
    ap (λ o. is_some (work_in o)) (took_first c.args.id c.args.cells.now.cells c.in-Some.place first).at

pub overflow_add-dead : goal.overflow_add-dead
overflow_add-dead g c =
    let cs = c.args.cells.now.cells in
    let small : c.args.dead.now + 1 < 2 ^ 64 = subst (λ n. n + 1 < 2 ^ 64) (sym c.requires.dead) (dead-fits c.in-Some.place c.take-work.result.0 c.take-work.result.1 cs c.take-work.ensures.taken c.take-work.ensures.small) in
    omega (arith, small)

pub returns-in-Some-clause-places : goal.returns-in-Some-clause-places
returns-in-Some-clause-places g c =
    let id = c.args.id in
    let cs = c.args.cells.now.cells in
    let first = ap (λ ns. slice_get ns 0) (sym c.requires.places ∙ c.in-Some.ensures.items) in
    let took = took_first id cs c.in-Some.place first in
    c.pop_front.ensures.rest ∙ ap (drop 1) c.requires.places
    ∙ sym (ap (λ b. cond b (drop 1 (places_from 0 id cs)) (places_from 0 id cs)) (nat_list_eq_equiv.refl id))
    ∙ places-first id id c.in-Some.place took.work cs first took.at
    ∙ ap (λ xs. places_from 0 id xs) (sym c.take-work.ensures.cells)

pub returns-in-Some-clause-dead : goal.returns-in-Some-clause-dead
returns-in-Some-clause-dead g c =
    let cs = c.args.cells.now.cells in
    let at = c.take-work.ensures.taken in
    ap (λ n. n + 1) c.requires.dead
    ∙ sym (dead-taken c.in-Some.place c.take-work.result.0 c.take-work.result.1 cs (work-below cs c.in-Some.place (ap (λ o. is_some (work_in o)) at)) at)
    ∙ ap (λ xs. count_by is_dead_cell xs) (sym c.take-work.ensures.cells)

pub returns-in-Some-clause-rest : goal.returns-in-Some-clause-rest
returns-in-Some-clause-rest g c =
    let cs = c.args.cells.now.cells in
    let took = took_first c.args.id cs c.in-Some.place (ap (λ ns. slice_get ns 0) (sym c.requires.places ∙ c.in-Some.ensures.items)) in
    ap (emptied c.args.id) c.take-work.ensures.cells ∙ emptied_taken c.args.id took.work c.in-Some.place cs took.at

pub returns-in-Some-clause-taken : goal.returns-in-Some-clause-taken
returns-in-Some-clause-taken g c =
    let id = c.args.id in
    let cs = c.args.cells.now.cells in
    let took = took_first id cs c.in-Some.place (ap (λ ns. slice_get ns 0) (sym c.requires.places ∙ c.in-Some.ensures.items)) in
    let both = sym c.take-work.ensures.taken ∙ took.at in
    let this : c.take-work.result.1 ≡ took.work = cc in
    took.frames
    ∙ ap (λ w. frame_of_work w ∷ frames_in (slice_set cs c.in-Some.place cells.Dead) id) (sym this)
    ∙ ap (λ xs. frame_of_work c.take-work.result.1 ∷ frames_in xs id) (sym c.take-work.ensures.cells)
