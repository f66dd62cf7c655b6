use Rattle.amqp_resource_log.proofs.Words.{sym, ◌∙◌}
use Rattle.amqp_resource_log.proofs.Emptied.{emptied_none}
use Rattle.amqp_resource_log.proofs.Frames.{no_places}
use Rattle.amqp_resource_log.proofs.removal.drop_places.Goals as goal

pub returns-clause-cells : goal.returns-clause-cells
returns-clause-cells g c =
    let now = c.take_next.new.cells.cells in
    sym (emptied_none 0 c.args.id now (no_places 0 c.args.id now (sym c.in_default.ensures.taken ∙ c.in_default.ensures.none.0)))
    ∙ c.take_next.ensures.rest ∙ c.loop-work.invariant.cells
