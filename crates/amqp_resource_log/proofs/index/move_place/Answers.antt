use Rattle.amqp_resource_log.proofs.Words.{ap, is_some, moved_to, refl, sym}
use Rattle.amqp_resource_log.proofs.Kept.{written}
use Rattle.amqp_resource_log.proofs.index.move_place.Goals as goal

pub returns-in-Some-clause-written : goal.returns-in-Some-clause-written
returns-in-Some-clause-written c =
    let w = record c.in-Some.live.now { places = c.move_in.new.places } in
    let follows = c.get_mut.follows.holds w in
    written (moved_to c.args.to) c.args.index.now.entries _ c.args.id c.in-Some.live.now w c.in-Some.ensures.value follows.0 (follows.3 (ap is_some (sym c.in-Some.ensures.value))).0 refl c.move_in.ensures
