use Rattle.std.proofs.Common.{rules, refl, Ok, inl}
use Rattle.amqp_accept_listener.proofs.control_links.open_coordinator.Goals as goal

-- the link was opened as the acceptor had made it ready
pub returns-in-Ok-clause-opens : goal.returns-in-Ok-clause-opens
returns-in-Ok-clause-opens g c =
    let held = c.in-Ok.ensures.opens in
    let ready = c.in_ok-opening.ensures in
    inl (Ok (c.in-Ok._output, c.in-Ok.frames), search (rules, held, ready), refl)
