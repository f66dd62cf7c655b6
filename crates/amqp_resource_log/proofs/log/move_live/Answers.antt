use Rattle.amqp_resource_log.proofs.Words.{FiltersInPlace, FiltersInPlace-more_no, FiltersInPlace-more_swap, ap, arith, is_live_cell, length, places_kept, refl, subst, sym, ◌+◌, ◌<◌, ◌∙◌, ◌≤◌}
use Rattle.amqp_resource_log.specs.declared.cell.Cell.TheVariants as cells
use Rattle.amqp_resource_log.proofs.Closing.{looked_at_live, looked_at_dead, moved_all}
use Rattle.amqp_resource_log.proofs.Reading.{dead_here, live_here}
use Rattle.amqp_resource_log.proofs.log.move_live.Goals as goal
use Rattle.amqp_resource_log.proofs.log.move_live.Goals.{in-Some, in_default}

pub loop-place-preserved : goal.loop-place-preserved
loop-place-preserved g c =
    let i = c.loop-place.place in
    let xs = c.args.cells.now.cells in
    let ys = c.loop-place.cells.cells in
    let held = c.loop-place.invariant.cells in
    let there : i < length ys = omega (arith, c.loop-place-test.true, c.len-place-end.ensures, held.long) in
    let below : i < length xs = omega (arith, held.long) in
    elim c.match-bring.branch [
      | in-Some w ↦
          let id = w.in-Some.txn_id in
          let at = live_here ys i id (sym c.bring.ensures.id ∙ w.in-Some.is) in
          rw (w.index-is, w.kept-is) (record {
            cells = FiltersInPlace-more_swap held there refl at.1 w.in-Some.ensures.live;
            index = λ t.
                w.move_place.ensures.written.places t
                ∙ looked_at_live t id at.0 (cells.Live id at.0) (places_kept c.loop-place.index.entries t) held below at.1 refl (c.loop-place.invariant.index t);
            homes = w.move_place.ensures.written.homes ∙ c.loop-place.invariant.homes;
            spare = w.move_place.ensures.spare ∙ c.loop-place.invariant.spare;
            looks = omega (arith, w.in-Some.ensures.looks, c.loop-place.invariant.looks);
          })
      | in_default w ↦
          let at = dead_here ys i there (sym c.bring.ensures.id ∙ w.in_default.is) in
          let same = w.in_default.ensures.dead in
          rw (w.index-is, w.kept-is) (record {
            cells =
                subst (λ zs. FiltersInPlace is_live_cell xs zs c.loop-place.kept (i + 1)) (sym same.0)
                (FiltersInPlace-more_no held there refl at);
            index = λ t. looked_at_dead t cells.Dead (places_kept c.loop-place.index.entries t) held below at refl (c.loop-place.invariant.index t);
            homes = c.loop-place.invariant.homes;
            spare = c.loop-place.invariant.spare;
            looks = same.1 ∙ c.loop-place.invariant.looks;
          })
    ]

pub returns-clause-looks : goal.returns-clause-looks
returns-clause-looks g c =
    let past : length c.args.cells.now.cells ≤ c.loop-place.place = omega (arith, c.len-place-end.ensures, c.loop-place-test.false) in
    c.loop-place.invariant.looks ∙ ap (λ n. c.args.looks.now + n) (moved_all c.loop-place.invariant.cells past)
