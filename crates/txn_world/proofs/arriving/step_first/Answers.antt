use Rattle.std.proofs.Common.{rules}
use Rattle.txn_world.proofs.Arrivals.{first_answered, first_unanswered, never_empty, same_again}
use Rattle.txn_world.proofs.arriving.step_first.Goals as goal

pub returns-in_err-drawn : goal.returns-in_err-drawn
returns-in_err-drawn g c =
    first_unanswered g.S.Tells.told g.S.LayerBelow.sure g.S.LayerBelow.review_gives g.S.LayerBelow.check_gives g.G.IdSource.next g.G.IdSource.start c.args.session.now c.step-2.new.self c.args.ids.now c.step-2.new.ids
    _ c.args.parties.now _ c.in-Some.first.now c.in-Some.ensures.0 c.step.result.now c.in_err-drawn.field-0.0 c.from_residual.result (search rules) c.parties.view_is c.in-Some.ensures.1
    (same_again _ _ _ _ _ c.parties.view_is c.reserve.ensures.items c.reserve-else-is_err.ensures.items c.reserve-else-is_err-2.ensures.items)
    c.step.ensures c.in_err-drawn.ensures

pub unreachable-requires-in_default-pop : goal.unreachable-requires-in_default-pop
unreachable-requires-in_default-pop g c =
    never_empty _ _ c.pop.result c.in-Some.first.now c.in-Some.ensures.0 c.in_default-pop.is c.pop.ensures.item c.pop.ensures.rest c.in-Some.ensures.1

pub returns : goal.returns
returns g c =
    first_answered g.S.Tells.told g.S.LayerBelow.sure g.S.LayerBelow.review_gives g.S.LayerBelow.check_gives g.G.IdSource.next g.G.IdSource.start c.args.session.now c.step-2.new.self c.args.ids.now c.step-2.new.ids
    _ c.args.parties.now c.in-Some.first.now c.in-Some-pop.item c.in-Some.ensures.0 c.pop.new.self c.into_parts-tag.result.0 c.into_parts-tag.result.1 c.step.result.now c.in_ok-drawn.drawn c.in_ok-drawn.reply
    c.keep.new.entries.items c.reserve.new.self.items c.keep.new.tags.items c.reserve-else-is_err.new.self.items c.keep.new.answers.items c.reserve-else-is_err-2.new.self.items _
    c.parties.view_is c.in-Some.ensures.1 c.in-Some-pop.ensures.item c.into_parts-tag.ensures.item c.into_parts-tag.ensures.step c.ids_are_short.ensures
    c.keep.ensures.entries c.reserve.ensures.items c.keep.ensures.tags c.reserve-else-is_err.ensures.items c.keep.ensures.answers c.reserve-else-is_err-2.ensures.items
    c.step.ensures c.in_ok-drawn.ensures
