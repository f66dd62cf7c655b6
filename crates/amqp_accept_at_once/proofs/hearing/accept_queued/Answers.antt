use Rattle.std.proofs.Common.{rules, ap, ◌∙◌}
use Rattle.amqp_accept_listener.specs.ListenerLaws.{names-same}
use Rattle.amqp_below_sessions.specs.Sessions.{Kept, same-own_queue}
use Rattle.amqp_accept_at_once.proofs.Opening.{opens-back, opens-refused}
use Rattle.amqp_accept_at_once.proofs.hearing.accept_queued.Goals as goal

-- the listener refuses it
pub returns-in_err-attach-clause-opens : goal.returns-in_err-attach-clause-opens
returns-in_err-attach-clause-opens g c =
    let took = c.in_err-attach.ensures in
    let kept = g.S.Session.kept in
    opens-refused _ _ _ _ _ c.args.listener.now c.take_queued.new.listener c.args.attach
    c.in_err-attach.field-0.0 c.from_residual.result c.requires (same-own_queue _ _ _ _ (ap (λ s. kept s) took.same) took.queue)
    (names-same g.S.Tells.told kept g.S.Session.names _ _ took.same) took.cause took.takes
    took.queue (search rules)

-- the acceptor answers it
pub returns-clause-opens : goal.returns-clause-opens
returns-clause-opens g c =
    let took = c.in_ok-attach.ensures in
    let says = c.accept.ensures in
    let kept = g.S.Session.kept in
    opens-back _ _ _ _ _ c.args.listener.now c.take_queued.new.listener c.accept.new.listener
    c.args.attach c.in_ok-attach.attach c.accept.result took.attach c.requires
    (same-own_queue _ _ _ _ (ap (λ s. kept s) took.same) took.queue) (names-same g.S.Tells.told kept g.S.Session.names _ _ took.same)
    took.steady.later took.takes says.kept says.names says.cause says.accepts
    (ap (λ (k : Kept). k.queue) says.kept ∙ took.queue)
