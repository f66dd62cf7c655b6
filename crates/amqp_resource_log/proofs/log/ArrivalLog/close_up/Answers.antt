use Rattle.amqp_resource_log.proofs.Words.{ap, count_by, is_dead_cell, places_from, sym, ◌∙◌}
use Rattle.amqp_resource_log.proofs.Closing.{live_alone}
use Rattle.amqp_resource_log.proofs.log.ArrivalLog.close_up.Goals as goal

pub invariant_of-self : goal.invariant_of-self
invariant_of-self g c =
    let left = c.truncate.ensures ∙ c.move_live-live.ensures.cells in
    record {
      places = λ t. c.move_live-live.ensures.index t ∙ ap (λ cs. places_from 0 t cs) (sym left);
      gone = live_alone c.self.inside.cells.cells ∙ ap (λ cs. count_by is_dead_cell cs) (sym left);
    }
