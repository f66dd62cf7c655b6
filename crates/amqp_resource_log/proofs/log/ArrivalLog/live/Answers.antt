use Rattle.amqp_resource_log.proofs.Words.{ap, arith, count_by, is_dead_cell, is_live_cell, length-filter, length-filter_both, live_count, refl, ◌-◌, ◌∙◌, ◌≡◌}
use Rattle.amqp_resource_log.proofs.log.ArrivalLog.live.Goals as goal

pub returns : goal.returns
returns c =
    let cs = c.self.inside.cells.cells in
    let both = length-filter_both is_live_cell is_dead_cell (λ x. refl) cs in
    let lives = length-filter is_live_cell cs in
    let deads = length-filter is_dead_cell cs in
    let rest : c.len.result - c.self.inside.dead ≡ count_by is_live_cell cs = omega (arith, c.len.ensures, c.self.invariant.gone) in
    rest ∙ ap live_count c.self.view_is
