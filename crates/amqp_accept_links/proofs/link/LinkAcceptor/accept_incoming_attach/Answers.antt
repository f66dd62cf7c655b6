use Rattle.std.proofs.Common.{List, rules}
use Rattle.amqp_txn_types.specs.declared.performatives.Frame.{Frame}
use Rattle.amqp_accept_links.specs.declared.endpoint.LinkEndpoint.{LinkEndpoint}
use Rattle.amqp_accept_links.proofs.Stopping.{stop-tells, stop-uncounted}
use Rattle.amqp_accept_links.proofs.link.LinkAcceptor.accept_incoming_attach.Goals as goal

-- the session had stopped
pub returns-in-Some-clause-told : goal.returns-in-Some-clause-told
returns-in-Some-clause-told g c = record {
  steady = search rules;
  cause = stop-uncounted (LinkEndpoint × List Frame) _ _ _ _ c.stopped-error.ensures;
}

-- the reason that is kept is the one that is told
pub returns-in-Some-clause-stopped : goal.returns-in-Some-clause-stopped
returns-in-Some-clause-stopped g c = stop-tells _ _ _ _ (search rules) c.stopped-error.ensures
