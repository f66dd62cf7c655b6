use Rattle.std.proofs.Common.{ap, ◌∙◌}
use Rattle.amqp_below_sessions.specs.Sessions.{stopped-own_queue, with_queue}
use Rattle.amqp_accept_listener.proofs.listener.session_calls.ListenerSessionSession.keep_stop_reason.Goals as goal

-- the listener's own queue stands with what its session keeps
pub returns-clause-kept : goal.returns-clause-kept
returns-clause-kept g c =
    let old = c.args.self.now in
    ap (λ k. with_queue k old.queue) c.keep_stop_reason.ensures.kept
    ∙ stopped-own_queue (g.S.Session.kept old.session) old.queue c.args.reason
