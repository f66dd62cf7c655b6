use Rattle.amqp_accept_links.proofs.open_link.Opening.new.Goals as goal

-- each part is what the function that makes it says
pub returns : goal.returns
returns c =
    rw (c.in_ok-name.ensures.copy, c.new_relay-relay.ensures, c.in_ok-try_clone.ensures.copy, c.receiver_mode_for-mode.ensures, c.in_ok-reply.ensures, c.in_ok-attach.ensures)
