use Rattle.std.proofs.Common.{ap, subst, ◌∙◌, ◌≡◌, zero-add, Ok, Err}
use Rattle.amqp_txn_types.specs.declared.performatives.Frame.{Frame}
use Rattle.amqp_below_layer.specs.OneFrame.{TakesFrame}
use Rattle.amqp_resource_record.proofs.Whole.{plain_none}
use Rattle.amqp_resource_session.specs.Steps.{fault_of}
use Rattle.amqp_resource_session.proofs.Keeping.{here-plain_wanting, keeps-plain, left-plain, keeps-plain_refused, when_known}
use Rattle.amqp_resource_session.proofs.Leaving.{checks-none, leaves-frame, leaves-here, plain_calls}
use Rattle.amqp_resource_session.proofs.frame_steps.plain_step.Goals as goal

pub returns-in_default-clause-leaves : goal.returns-in_default-clause-leaves
returns-in_default-clause-leaves g c = leaves-here _ _ _ _ _ _ _ _ _ (here-plain_wanting c.args.held.now c.args.frame.now c.requires)

pub returns-in-Ok-take_frame-clause-leaves : goal.returns-in-Ok-take_frame-clause-leaves
returns-in-Ok-take_frame-clause-leaves g c =
    let old = g.S.Tells.told c.args.below.now in
    let new = g.S.Tells.told c.take_frame.new.below in
    let takes : TakesFrame old new c.args.frame.now (Ok c.in-Ok-take_frame.answers) = subst (λ (f : Frame). TakesFrame old new f (Ok c.in-Ok-take_frame.answers)) c.in-Ok.ensures.copy c.in-Ok-take_frame.ensures.told in
    leaves-frame _ _ _ _ _ _ c.args.below.now c.take_frame.new.below c.args.frame.now _ (λ f. keeps-plain c.args.held.now old new c.args.frame.now _ c.in-Ok-take_frame.answers c.no_draws.ensures c.requires takes f)
    (tt, tt) tt (plain_calls c.args.frame.now c.no_draws.result c.in-Ok-take_frame.answers (c.take_frame.new.below ≡ c.args.below.now) c.requires) tt (checks-none _ c.args.below.now c.take_frame.new.below c.args.frame.now _ (plain_none c.args.frame.now c.requires)) tt takes.fixed takes.later takes.reviews

pub returns-in-Err-clause-leaves : goal.returns-in-Err-clause-leaves
returns-in-Err-clause-leaves g c =
    let old = g.S.Tells.told c.args.below.now in
    let new = g.S.Tells.told c.take_frame.new.below in
    let takes : TakesFrame old new c.args.frame.now (Err c.in-Err.refusal) = subst (λ (f : Frame). TakesFrame old new f (Err c.in-Err.refusal)) c.in-Ok.ensures.copy c.in-Err.ensures.told in
    let known = c.fault_of.ensures.known in
    rw c.faulted.ensures (leaves-frame _ _ _ _ _ _ c.args.below.now c.take_frame.new.below c.args.frame.now _ (λ f. keeps-plain_refused c.args.held.now old new c.args.frame.now c.in-Err.refusal c.fault_of.result _ c.requires known (c.fault_of.ensures.fault ∙ ap fault_of c.handed_with-refused.ensures.error) (c.handed_with-refused.ensures.handed ∙ zero-add _) takes f)
    (when_known _ _ _ known takes.cause) tt (when_known _ _ _ known tt) tt (checks-none _ c.args.below.now c.take_frame.new.below c.args.frame.now _ (plain_none c.args.frame.now c.requires)) (left-plain c.args.held.now c.args.frame.now c.fault_of.result c.handed_with-refused.result.handed c.requires known) takes.fixed takes.later takes.reviews)
