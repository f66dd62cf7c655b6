use Rattle.std.proofs.Common.{rules}
use Rattle.amqp_resource_shared.proofs.Closing.{not-of, number-same, repeated-says}
use Rattle.amqp_resource_shared.proofs.close.why_closed.Goals as goal

pub returns-in-Some : goal.returns-in-Some
returns-in-Some c =
    let rs = c.args.receipts.items in
    let places = c.in-Some.places in
    let says = repeated-says rs c.as_slice.result.now c.in-Ok.repeated places c.as_slice.ensures.value c.in-Ok.ensures c.in-Some.is in
    let two = c.take_two-told.ensures in
    (search rules, (places.0, places.1, says.0, two.told, two.again), number-same rs places.0 places.1 c.take_two-told.result.0 c.take_two-told.result.1 two.told two.again says.2)

pub returns-in-Some-first_different : goal.returns-in-Some-first_different
returns-in-Some-first_different c =
    let at = c.take_one-told.ensures in
    let place = c.in-Some-first_different.place in
    let apart = not-of c.args.entries.now c.as_slice-2.result.now c.args.receipts.items place c.take_one-told.result c.as_slice-2.ensures.value c.in-Some-first_different.ensures.1 at in
    (search rules, search rules, (place, at), search rules, apart)
