use Rattle.amqp_resource_session.proofs.session.TxnSession.step_blank.Goals as goal

pub returns : goal.returns
returns g c = c.step_counted.ensures.says
