use Rattle.std.proofs.Common.{◌≡◌, true, rules}
use Rattle.txn_world.specs.Arriving.{may_arrive}
use Rattle.txn_world.proofs.Arrivals.{arrivable, arrive_answered, arrive_ended, arrive_skips}
use Rattle.txn_world.proofs.arriving.arrive.Goals as goal

pub returns-then-not-may_arrive : goal.returns-then-not-may_arrive
returns-then-not-may_arrive g c =
    let x = arrive_skips g.S.Tells.told g.S.LayerBelow.sure g.G.IdSource.next g.G.IdSource.start c.args.session.now c.args.ids.now c.args.parties.now c.requires.sound c.requires.serves (search rules) in
    record { says = x.says; sound = x.sound; serves = x.serves }

pub step_first-requires : goal.step_first-requires
step_first-requires g c =
    let may : may_arrive c.args.parties.now ≡ true = search rules in
    let a = arrivable c.args.parties.now may in
    record { runs = c.requires.serves.runs a.stop; stands = c.requires.serves.stands a.stop; waits = a.waits }

pub returns-in-Ok : goal.returns-in-Ok
returns-in-Ok g c =
    let may : may_arrive c.args.parties.now ≡ true = search rules in
    let a = arrivable c.args.parties.now may in
    let x = arrive_answered g.S.Tells.told g.S.LayerBelow.sure g.S.LayerBelow.review_gives g.S.LayerBelow.check_gives g.G.IdSource.next g.G.IdSource.start c.args.session.now c.step_first.new.session c.args.ids.now c.step_first.new.ids c.args.parties.now c.step_first.new.parties c.in-Ok.field-0 c.requires.sound c.requires.serves a.cut a.stop c.in-Ok.ensures in
    record { says = x.says; sound = x.sound; serves = x.serves }

pub returns-in-Err : goal.returns-in-Err
returns-in-Err g c =
    let may : may_arrive c.args.parties.now ≡ true = search rules in
    let a = arrivable c.args.parties.now may in
    let x = arrive_ended g.S.Tells.told g.S.LayerBelow.sure g.S.LayerBelow.review_gives g.S.LayerBelow.check_gives g.G.IdSource.next g.G.IdSource.start c.args.session.now c.step_first.new.session c.args.ids.now c.step_first.new.ids c.args.parties.now c.step_first.new.parties c.stop_at.new.parties c.in-Err.error c.stop_at.result c.requires.sound c.requires.serves a.cut a.stop c.in-Err.ensures c.stop_at.ensures in
    record { says = x.says; sound = x.sound; serves = x.serves }
