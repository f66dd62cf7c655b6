use Rattle.std.proofs.Common.{◌≡◌, ◌≤◌, length, take, drop, vec_capacity}
use Rattle.std.specs.Vec.Iter.{into_iter_items}
use Rattle.amqp_resource_session.specs.Committing.{HandedSome}
use Rattle.amqp_resource_session.proofs.review.hand_all.Given as goal

abbrev pub invariant-loop-frame : goal.invariant-loop-frame
invariant-loop-frame g l =
    let old = g.S.Tells.told l.fn.below in
    let now = g.S.Tells.told l.below in
    record {
      handed : HandedSome old now (take (length l.echoes.items) l.fn.frames) l.echoes.items;
      rest : into_iter_items l.left ≡ drop (length l.echoes.items) l.fn.frames;
      count : length l.echoes.items ≤ length l.fn.frames;
      opened : now.opened ≡ old.opened;
      refused : now.refused ≡ old.refused;
      reviews : now.reviews ≡ old.reviews;
      fixed : now.fixed ≡ old.fixed;
      later : old.refusals ≤ now.refusals;
      room : length l.fn.frames ≤ vec_capacity l.echoes;
      accepted : g.S.LayerBelow.takes l.below (into_iter_items l.left);
    }

abbrev pub decreases-loop-frame : goal.decreases-loop-frame
decreases-loop-frame g l = length (into_iter_items l.left)
