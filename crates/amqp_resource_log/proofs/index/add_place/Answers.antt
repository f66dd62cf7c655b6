use Rattle.amqp_resource_log.proofs.Words.{[], ap, is_some, refl, sym, ◌++◌, ◌∷◌}
use Rattle.amqp_resource_log.proofs.Kept.{written}
use Rattle.amqp_resource_log.proofs.index.add_place.Goals as goal

pub returns-in-Ok-clause-written : goal.returns-in-Ok-clause-written
returns-in-Ok-clause-written c =
    let w = record c.in-Some.live.now { places = c.push_back.new.self } in
    let follows = c.get_mut.follows.holds w in
    written (λ places. places ++ c.args.place ∷ []) c.args.index.now.entries _ c.args.id c.in-Some.live.now w c.in-Some.ensures.value follows.0 (follows.3 (ap is_some (sym c.in-Some.ensures.value))).0 refl c.in-Ok.ensures.items

pub returns-in-Err-clause-written : goal.returns-in-Err-clause-written
returns-in-Err-clause-written c =
    let w = record c.in-Some.live.now { places = c.push_back.new.self } in
    let follows = c.get_mut.follows.holds w in
    written (λ places. places) c.args.index.now.entries _ c.args.id c.in-Some.live.now w c.in-Some.ensures.value follows.0 (follows.3 (ap is_some (sym c.in-Some.ensures.value))).0 refl c.in-Err.ensures.items
