use Rattle.amqp_resource_log.proofs.Words.{subst, sym, ◌<◌, ◌∙◌}
use Rattle.amqp_resource_log.proofs.Places.{found_below, removed_found, removed_none}
use Rattle.amqp_resource_log.proofs.index.drop_from.Goals as goal

pub returns-in-Some-place_of : goal.returns-in-Some-place_of
returns-in-Some-place_of c =
    let at = sym c.place_of.ensures ∙ c.in-Some-place_of.is in
    let below = found_below c.args.place c.args.places.now.items c.in-Some-place_of.at at in
    let gone = removed_found c.args.place c.args.places.now.items c.in-Some-place_of.at at in
    let there = c.remove-place.ensures.succeeds 0 (subst (λ n. c.in-Some-place_of.at < n) (sym c.args.places.now.ok.0) below) in
    (rw there at c.remove-place.ensures.items) ∙ gone

pub returns-in_default-place_of : goal.returns-in_default-place_of
returns-in_default-place_of c = removed_none c.args.place c.args.places.now.items (sym c.place_of.ensures ∙ c.in_default-place_of.is)
