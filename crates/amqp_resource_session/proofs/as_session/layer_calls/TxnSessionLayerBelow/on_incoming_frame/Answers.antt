use Rattle.amqp_resource_session.proofs.Heard.{hears-takes}
use Rattle.amqp_resource_session.proofs.as_session.layer_calls.TxnSessionLayerBelow.on_incoming_frame.Goals as goal

pub returns-clause-told : goal.returns-clause-told
returns-clause-told g c =
    hears-takes _ _ _ _ _ _ c.args.frame _ c.hear.ensures.later c.hear.ensures.fixed
    c.hear.ensures.counts c.hear.ensures.vetoes
