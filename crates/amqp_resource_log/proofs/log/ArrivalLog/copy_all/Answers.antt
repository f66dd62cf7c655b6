use Rattle.amqp_resource_log.proofs.Words.{Log, ap, frames_of, map, places_in, stripped, sym, ◌∙◌}
use Rattle.amqp_resource_log.proofs.Frames.{no_frames}
use Rattle.amqp_resource_log.proofs.log.ArrivalLog.copy_all.Goals as goal

pub returns-in-None-clause-list : goal.returns-in-None-clause-list
returns-in-None-clause-list g c =
    let id = c.args.txn_id.now in
    let empty = sym (c.self.invariant.places id) ∙ ap places_in (sym c.in-None.ensures.value) in
    let none = sym (ap (λ (log : Log). frames_of log id) c.self.view_is) ∙ no_frames 0 id c.self.inside.cells.cells empty in
    c.new.ensures.items ∙ sym (ap (map stripped) none)
