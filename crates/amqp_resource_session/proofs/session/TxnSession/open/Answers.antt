use Rattle.amqp_resource_session.proofs.Heard.{hears-opens}
use Rattle.amqp_resource_session.proofs.session.TxnSession.open.Goals as goal

pub returns-clause-told : goal.returns-clause-told
returns-clause-told g c =
    hears-opens _ _ _ _ _ _ c.args.attach.now _ c.open_link.ensures.later c.open_link.ensures.fixed
    c.open_link.ensures.counts c.open_link.ensures.vetoes
