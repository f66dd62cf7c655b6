use Rattle.amqp_txn_types.specs.declared.performatives.Frame.TheVariants as frames
use Rattle.amqp_resource_session.proofs.Keeping.{here-attach_wanting, keeps-attach_refused, keeps-attached, txn-attach}
use Rattle.amqp_resource_session.proofs.Leaving.{checks-none, leaves-frame, leaves-here}
use Rattle.amqp_resource_session.proofs.frame_steps.attach_step.Goals as goal

pub returns-in-Opened-clause-leaves : goal.returns-in-Opened-clause-leaves
returns-in-Opened-clause-leaves g c =
    let opens = c.in-Opened.ensures.opens in
    let told = opens.1.opens in
    leaves-frame _ _ _ _ _ _ c.args.below.now c.open_control.new.below (frames.Attach c.args.attach.now) _ (λ f. rw opens.0.number (keeps-attached c.args.held.now _ (g.S.Tells.told c.args.below.now) (g.S.Tells.told c.open_control.new.below) c.args.attach.now _ c.in-Opened.frames c.no_draws.ensures c.requires.coordinator
    opens.0.live opens.0.links opens.0.opened told f)) (tt, tt) tt tt tt (checks-none _ c.args.below.now c.open_control.new.below _ _ (txn-attach c.args.attach.now)) tt told.fixed told.later told.reviews

pub returns-in-Refused-clause-leaves : goal.returns-in-Refused-clause-leaves
returns-in-Refused-clause-leaves g c =
    let opens = c.in-Refused.ensures.opens in
    let told = opens.1.opens in
    leaves-frame _ _ _ _ _ _ c.args.below.now c.open_control.new.below (frames.Attach c.args.attach.now) _ (λ f. keeps-attach_refused c.args.held.now _ (g.S.Tells.told c.args.below.now) (g.S.Tells.told c.open_control.new.below) c.args.attach.now _ c.in-Refused.error c.no_draws-in-Refused.ensures c.requires.coordinator
    opens.0 told f) (told.cause, tt) tt tt tt (checks-none _ c.args.below.now c.open_control.new.below _ _ (txn-attach c.args.attach.now)) tt told.fixed told.later told.reviews

pub returns-in-NoMemory-clause-leaves : goal.returns-in-NoMemory-clause-leaves
returns-in-NoMemory-clause-leaves g c =
    let opens = c.in-NoMemory.ensures.opens in
    rw opens.1 (leaves-here _ _ _ _ _ _ _ _ _ (here-attach_wanting c.args.held.now _ c.args.attach.now opens.0))
