use Rattle.amqp_accept_links.proofs.control.ControlLinkAcceptor.prepare.Goals as goal

-- copies equal their originals
pub returns : goal.returns
returns c = rw (c.in_ok-try_clone.ensures.copy, c.in_ok-local.ensures.copy, c.credit_flow-credit.ensures) at c.new.ensures
