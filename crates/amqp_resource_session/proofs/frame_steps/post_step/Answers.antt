use Rattle.std.proofs.Common.{ap, subst, ◌∙◌, ◌≤◌, ◌≡◌, refl, List, Ok, Err, length, None}
use Rattle.amqp_below_layer.specs.OneFrame.{ChecksGiven}
use Rattle.amqp_txn_types.specs.declared.performatives.Frame.{Frame}
use Rattle.amqp_txn_types.specs.Presumptive.{answered_under}
use Rattle.amqp_resource_log.specs.Live.{kept}
use Rattle.amqp_resource_held.specs.Changes.{Arrives}
use Rattle.amqp_resource_held.specs.Views.{view_of_held}
use Rattle.amqp_resource_held.proofs.Fitting.{fits-posted}
use Rattle.amqp_resource_session.proofs.Keeping.{here-dead, here-post_wanting, keeps-post, keeps-post_refused, left-post, when_known}
use Rattle.amqp_resource_session.proofs.Leaving.{checks-post, leaves-frame, leaves-here, post_calls}
use Rattle.amqp_resource_session.proofs.frame_steps.post_step.Goals as goal

pub returns-in-NotLive-clause-leaves : goal.returns-in-NotLive-clause-leaves
returns-in-NotLive-clause-leaves g c =
    let was = c.in-NotLive.ensures.kept in
    rw c.faulted.ensures (leaves-here _ _ _ _ _ _ _ _ _ (here-dead c.args.held.now _ c.args.frame.now c.args.id c.requires was.0 (record {
      live = λ t. ap (λ live. kept live t) was.1;
      links = λ k. refl;
      opened = refl;
    })))

pub returns-in-NoMemory-clause-leaves : goal.returns-in-NoMemory-clause-leaves
returns-in-NoMemory-clause-leaves g c =
    let was = c.in-NoMemory.ensures.kept in
    leaves-here _ _ _ _ _ _ _ _ _ (here-post_wanting c.args.held.now _ c.args.frame.now c.args.id c.requires was.0 (record {
      live = λ t. ap (λ live. kept live t) was.1;
      links = λ k. refl;
      opened = refl;
    }))

pub returns-in-Ok-clause-leaves : goal.returns-in-Ok-clause-leaves
returns-in-Ok-clause-leaves g c =
    let posted = c.in-Answered.ensures.kept in
    let checked = c.in-Ok.ensures in
    let steady = checked.told.steady in
    let same : c.as_slice.result.now ≡ answered_under c.args.id c.args.frame.now = c.as_slice.ensures ∙ posted.answered in
    let Checks : List Frame → Type 0 = λ fs. ChecksGiven g.S.LayerBelow.check_gives c.args.below.now c.check_given.new.below fs (Ok tt) in
    leaves-frame _ _ _ _ _ _ c.args.below.now c.check_given.new.below c.args.frame.now _ (λ f. rw posted.answered (keeps-post c.args.held.now _ (g.S.Tells.told c.args.below.now) (g.S.Tells.told c.check_given.new.below) c.args.frame.now c.args.id _ c.no_draws.ensures c.requires
    posted.was_live posted.live (λ k. refl) refl steady f)) (tt, tt) tt
    (post_calls g.S.LayerBelow.check_gives c.args.below.now c.check_given.new.below c.args.frame.now c.no_draws.result c.in-Answered.given None
    (subst Checks c.as_slice.ensures checked.checks))
    tt (checks-post _ c.args.below.now c.check_given.new.below c.args.frame.now c.args.id _ c.requires (subst Checks same checked.checks))
    tt steady.fixed steady.later steady.reviews

pub returns-in-Err-clause-leaves : goal.returns-in-Err-clause-leaves
returns-in-Err-clause-leaves g c =
    let posted = c.in-Answered.ensures.kept in
    let checked = c.in-Err.ensures in
    let same : c.as_slice.result.now ≡ answered_under c.args.id c.args.frame.now = c.as_slice.ensures ∙ posted.answered in
    let some : 1 ≤ length (answered_under c.args.id c.args.frame.now) = subst (λ (fs : List Frame). 1 ≤ length fs) same checked.some in
    let Checks : List Frame → Type 0 = λ fs. ChecksGiven g.S.LayerBelow.check_gives c.args.below.now c.check_given.new.below fs (Err c.in-Err.error) in
    let steady = checked.told.steady in
    let known = c.fault_of.ensures.known in
    let arrives : Arrives (view_of_held c.args.held.now) (view_of_held (record c.args.held.now { work = c.keep_under.new.work })) c.args.frame.now c.args.id =
    record { was_live = posted.was_live; live = posted.live; links = record { links = λ k. refl; opened = refl } } in
    rw c.faulted-in-Err.ensures (leaves-frame _ _ _ _ _ _ c.args.below.now c.check_given.new.below c.args.frame.now _ (λ f. keeps-post_refused c.args.held.now _ (g.S.Tells.told c.args.below.now) (g.S.Tells.told c.check_given.new.below) c.args.frame.now c.args.id c.fault_of.result c.in-Err.error c.requires posted.was_live
    some known c.fault_of.ensures.fault steady (fits-posted c.args.held.now _ c.args.id c.args.frame.now posted.live (λ k. refl) refl f))
    (when_known _ _ _ known checked.told.cause) tt (when_known _ _ _ known tt) tt
    (checks-post _ c.args.below.now c.check_given.new.below c.args.frame.now c.args.id _ c.requires (when_known _ _ _ known (c.in-Err.error, c.fault_of.ensures.fault, subst Checks same checked.checks)))
    (left-post c.args.held.now (record c.args.held.now { work = c.keep_under.new.work }) c.args.frame.now c.args.id c.fault_of.result 0 c.requires known arrives) steady.fixed steady.later steady.reviews)
