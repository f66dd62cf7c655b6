-- The numbers of a session. Part 2 of the standard, section 2.5.6 (session flow control).
use Rattle.std.specs.Prelude.{ℕ, ◌+◌, ◌-◌, ◌^◌, ◌%◌, Bool, true, false, Option, Some, None, unwrap_or}
use Rattle.amqp_txn_types.specs.declared.performatives.Begin.{Begin}
use Rattle.amqp_txn_types.specs.declared.performatives.Flow.{Flow}
use Rattle.amqp_txn_types.specs.declared.performatives.LinkFlow.{LinkFlow}
use Rattle.amqp_below_sessions.specs.declared.numbers.SessionNumbers.{SessionNumbers}

-- the id after one
abbrev pub following : Option ℕ → Option ℕ
following None = None
following (Some id) = Some ((id + 1) % 2 ^ 32)

-- the numbers of a session that begins so: its first transfer has the id that its begin says, its
-- first delivery the number 0, and the peer told nothing
abbrev pub at_first : Begin → SessionNumbers
at_first begin = record {
  first_outgoing_id = begin.next_outgoing_id;
  next_outgoing_id = begin.next_outgoing_id;
  next_incoming_id = None;
  peer_incoming_window = 0;
  peer_outgoing_window = 0;
  next_delivery_id = 0;
}

-- the numbers after the peer's begin
abbrev pub after_begin : SessionNumbers → Begin → SessionNumbers
after_begin numbers begin = record numbers {
  next_incoming_id = Some begin.next_outgoing_id;
  peer_incoming_window = begin.incoming_window;
  peer_outgoing_window = begin.outgoing_window;
}

-- the id after the last transfer that the peer can take, which goes from the first one that it
-- hasn't seen
abbrev pub window_end : SessionNumbers → Flow → ℕ
window_end numbers flow =
    (unwrap_or flow.next_incoming_id numbers.first_outgoing_id + flow.incoming_window) % 2 ^ 32

-- the numbers after a flow
abbrev pub after_flow : SessionNumbers → Flow → SessionNumbers
after_flow numbers flow = record numbers {
  next_incoming_id = Some flow.next_outgoing_id;
  peer_incoming_window = (window_end numbers flow + 2 ^ 32 - numbers.next_outgoing_id) % 2 ^ 32;
  peer_outgoing_window = flow.outgoing_window;
}

-- the numbers after a transfer that came
abbrev pub counted_in : SessionNumbers → SessionNumbers
counted_in numbers = record numbers {
  next_incoming_id = following numbers.next_incoming_id;
  peer_outgoing_window = numbers.peer_outgoing_window - 1;
}

-- the numbers after a transfer that was sent
abbrev pub counted_out : SessionNumbers → SessionNumbers
counted_out numbers = record numbers {
  next_outgoing_id = (numbers.next_outgoing_id + 1) % 2 ^ 32;
  peer_incoming_window = numbers.peer_incoming_window - 1;
}

-- the flow that tells the session's numbers alone
abbrev pub window_flow : SessionNumbers → Begin → Flow
window_flow numbers begin = record {
  next_incoming_id = numbers.next_incoming_id;
  incoming_window = begin.incoming_window;
  next_outgoing_id = numbers.next_outgoing_id;
  outgoing_window = begin.outgoing_window;
  handle = None;
  delivery_count = None;
  link_credit = None;
  available = None;
  drain = false;
  echo = false;
  properties = None;
}

-- the flow that tells the session's numbers with those of a link
abbrev pub flow_with : SessionNumbers → Begin → LinkFlow → Flow
flow_with numbers begin link = record {
  next_incoming_id = numbers.next_incoming_id;
  incoming_window = begin.incoming_window;
  next_outgoing_id = numbers.next_outgoing_id;
  outgoing_window = begin.outgoing_window;
  handle = Some link.handle;
  delivery_count = link.delivery_count;
  link_credit = link.link_credit;
  available = link.available;
  drain = link.drain;
  echo = link.echo;
  properties = link.properties;
}

-- the numbers once a delivery took one
abbrev pub delivery_numbered : SessionNumbers → SessionNumbers
delivery_numbered numbers =
    record numbers { next_delivery_id = (numbers.next_delivery_id + 1) % 2 ^ 32 }

-- the numbers after a transfer that was sent, which takes a delivery's number where it is the first
abbrev pub numbered : Bool → SessionNumbers → SessionNumbers
numbered true numbers = delivery_numbered (counted_out numbers)
numbered false numbers = counted_out numbers
