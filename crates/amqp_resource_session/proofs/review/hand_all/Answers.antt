use Rattle.std.proofs.Common.{ap, sym, subst, ◌∙◌, arith, length, ◌+◌, ◌≡◌, ◌∷◌, [], ◌++◌, take, drop, cond, ℕ, Err, List}
use Rattle.std.specs.Vec.Iter.{into_iter_items}
use Rattle.std.proofs.lemmas.List.{length-append}
use Rattle.amqp_below_layer.specs.declared.answers.Answers.{Answers}
use Rattle.amqp_below_sessions.specs.declared.transacting.CommitFault.{CommitFault}
use Rattle.amqp_txn_types.specs.declared.performatives.Frame.{Frame}
use Rattle.amqp_txn_types.proofs.Growing.{grown-nil}
use Rattle.amqp_below_layer.specs.Told.{Reviewed}
use Rattle.amqp_below_sessions.specs.declared.transacting.CommitFault.TheVariants as commit_faults
use Rattle.amqp_resource_session.specs.Committing.{HandedSome, HandsAll}
use Rattle.amqp_resource_session.proofs.Handing.{handed-more, handed-part, handed-rest, only-no_memory, refuses-nothing}
use Rattle.amqp_resource_session.proofs.review.hand_all.Goals as goal

pub loop-frame-preserved : goal.loop-frame-preserved
loop-frame-preserved g c =
    let old = g.S.Tells.told c.args.below.now in
    let mid = g.S.Tells.told c.loop-frame.below in
    let new = g.S.Tells.told c.take_frame.new.below in
    let all = c.args.frames in
    let echoes = c.loop-frame.echoes.items in
    let x = c.in-Some.frame in
    let a = c.in-Ok.answers in
    let left = into_iter_items c.next.new.self in
    let here : into_iter_items c.loop-frame.left ≡ x ∷ left = c.in-Some.ensures.items in
    let d : drop (length echoes) all ≡ x ∷ left = sym c.loop-frame.invariant.rest ∙ here in
    let took = c.in-Ok.ensures.told in
    let pushed : c.push_reserved.new.self.items ≡ echoes ++ a ∷ [] = c.push_reserved.ensures.items in
    let count : length c.push_reserved.new.self.items ≡ length echoes + 1 = ap length pushed ∙ length-append echoes (a ∷ []) in
    let more = handed-rest all left x (length echoes) d in
    let next : HandedSome old new (take (length echoes + 1) all) (echoes ++ a ∷ []) = handed-more old mid new all left x echoes a c.loop-frame.invariant.handed d took.taken.0 took.taken.1 in
    record {
      handed = subst (λ (n : ℕ). HandedSome old new (take n all) c.push_reserved.new.self.items) (sym count) (subst (λ (es : List Answers). HandedSome old new (take (length echoes + 1) all) es) (sym pushed) next);
      rest = sym (ap (λ n. drop n all) count ∙ more.0);
      count = omega (arith, more.1, count);
      opened = took.opened ∙ c.loop-frame.invariant.opened;
      refused = took.refused ∙ grown-nil mid.refused ∙ c.loop-frame.invariant.refused;
      reviews = took.reviews ∙ c.loop-frame.invariant.reviews;
      fixed = took.fixed ∙ c.loop-frame.invariant.fixed;
      later = omega (arith, c.loop-frame.invariant.later, took.later);
      room = omega (arith, c.loop-frame.invariant.room, c.push_reserved.ensures.capacity);
      accepted = c.in-Ok.ensures.on left (subst (λ (fs : List Frame). g.S.LayerBelow.takes c.loop-frame.below fs) here c.loop-frame.invariant.accepted);
    }

pub returns-in-Err-clause-hands : goal.returns-in-Err-clause-hands
returns-in-Err-clause-hands g c =
    let old = g.S.Tells.told c.args.below.now in
    let mid = g.S.Tells.told c.loop-frame.below in
    let new = g.S.Tells.told c.take_frame.new.below in
    let all = c.args.frames in
    let echoes = c.loop-frame.echoes.items in
    let x = c.in-Some.frame in
    let left = into_iter_items c.next.new.self in
    let here : into_iter_items c.loop-frame.left ≡ x ∷ left = c.in-Some.ensures.items in
    let d : drop (length echoes) all ≡ x ∷ left = sym c.loop-frame.invariant.rest ∙ here in
    let b = c.in-Err.refusal.taken in
    let e = c.in-Err.refusal.error in
    let took = c.in-Err.ensures.told in
    let wants = c.in-Err.ensures.on left (subst (λ (fs : List Frame). g.S.LayerBelow.takes c.loop-frame.below fs) here c.loop-frame.invariant.accepted) in
    let same : new.reviews ≡ old.reviews = took.reviews ∙ c.loop-frame.invariant.reviews in
    let is : c.refused_after.result ≡ commit_faults.Refused e (length echoes + cond b 1 0) =
    c.refused_after.ensures ∙ ap (λ n. commit_faults.Refused e (n + cond b 1 0)) (c.len.ensures ∙ c.loop-frame.echoes.ok.0) in
    subst (λ (fault : CommitFault). HandsAll old new all (Err fault)) (sym is) (record {
      handed = (only-no_memory e wants.0, handed-part old mid new all left x echoes b c.loop-frame.invariant.handed d took.taken);
      opened = took.opened ∙ c.loop-frame.invariant.opened;
      refused = took.refused ∙ refuses-nothing mid.refused x b e wants.0 ∙ c.loop-frame.invariant.refused;
      vetoed = ap (λ (r : Reviewed). r.vetoed) same ∙ sym (grown-nil old.reviews.vetoed);
      fixed = took.fixed ∙ c.loop-frame.invariant.fixed;
      later = omega (arith, c.loop-frame.invariant.later, took.later);
      counted = omega (arith, ap (λ (r : Reviewed). r.vetoes) same);
      cause = omega (arith, c.loop-frame.invariant.later, took.cause);
    })
