use Rattle.amqp_accept_tests.proofs.link_tests.test_values.accept.Goals as goal

-- What the acceptor requires is what is required here. A search for it takes minutes, since it looks
-- through all that an acceptor answers.
pub accept_incoming_attach-requires-clause-source : goal.accept_incoming_attach-requires-clause-source
accept_incoming_attach-requires-clause-source g c = c.requires.source

pub accept_incoming_attach-requires-clause-target : goal.accept_incoming_attach-requires-clause-target
accept_incoming_attach-requires-clause-target g c = c.requires.target
