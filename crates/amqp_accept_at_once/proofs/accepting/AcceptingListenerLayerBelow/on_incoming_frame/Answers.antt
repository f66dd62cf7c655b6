use Rattle.std.proofs.Common.{refl}
use Rattle.amqp_accept_at_once.proofs.accepting.AcceptingListenerLayerBelow.on_incoming_frame.Goals as goal

-- what the listener and the acceptor answered, counted
pub returns-in-Attach-clause-gives : goal.returns-in-Attach-clause-gives
returns-in-Attach-clause-gives g c =
    let opened = c.hear_attach-answer.ensures in
    rw c.in-Attach.is (rw c.count_answer.ensures.answer (record {
      tells = opened.steady;
      gave = opened.opens;
      acceptor = refl;
      counts = c.count_answer.ensures.counted;
    }))
