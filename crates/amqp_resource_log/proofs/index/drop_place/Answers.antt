use Rattle.amqp_resource_log.proofs.Words.{ap, is_some, refl, sym, without_place}
use Rattle.amqp_resource_log.proofs.Kept.{written}
use Rattle.amqp_resource_log.proofs.index.drop_place.Goals as goal

pub returns-in-Some-clause-written : goal.returns-in-Some-clause-written
returns-in-Some-clause-written c =
    let w = record c.in-Some.live.now { places = c.drop_from.new.places } in
    let follows = c.get_mut.follows.holds w in
    written (without_place c.args.place) c.args.index.now.entries _ c.args.id c.in-Some.live.now w c.in-Some.ensures.value follows.0 (follows.3 (ap is_some (sym c.in-Some.ensures.value))).0 refl c.drop_from.ensures
