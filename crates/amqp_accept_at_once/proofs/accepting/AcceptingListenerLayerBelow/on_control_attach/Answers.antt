use Rattle.std.proofs.Common.{refl}
use Rattle.amqp_accept_at_once.proofs.accepting.AcceptingListenerLayerBelow.on_control_attach.Goals as goal

-- what the listener answered, counted
pub returns-clause-gives : goal.returns-clause-gives
returns-clause-gives g c =
    let opened = c.on_control_attach-answer.ensures in
    rw c.count_answer.ensures.answer (record {
      tells = opened.told;
      gave = opened.gives;
      acceptor = refl;
      counts = c.count_answer.ensures.counted;
    })
