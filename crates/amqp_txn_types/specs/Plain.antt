-- Performatives, termini and states with their required fields alone: each other field has the
-- default that the standard gives it, or is absent. Part 2 of the standard (OASIS AMQP 1.0).
use Rattle.std.specs.Prelude.{ℕ, false, None}
use Rattle.amqp_txn_types.specs.declared.delivery.Error.{Error}
use Rattle.amqp_txn_types.specs.declared.delivery.ErrorCondition.{ErrorCondition}
use Rattle.amqp_txn_types.specs.declared.delivery.Modified.{Modified}
use Rattle.amqp_txn_types.specs.declared.delivery.Rejected.{Rejected}
use Rattle.amqp_txn_types.specs.declared.delivery.TransactionalState.{TransactionalState}
use Rattle.amqp_txn_types.specs.declared.id.TransactionId.{TransactionId}
use Rattle.amqp_txn_types.specs.declared.performatives.Attach.{Attach}
use Rattle.amqp_txn_types.specs.declared.performatives.Begin.{Begin}
use Rattle.amqp_txn_types.specs.declared.performatives.Detach.{Detach}
use Rattle.amqp_txn_types.specs.declared.performatives.Disposition.{Disposition}
use Rattle.amqp_txn_types.specs.declared.performatives.End.{End}
use Rattle.amqp_txn_types.specs.declared.performatives.Flow.{Flow}
use Rattle.amqp_txn_types.specs.declared.performatives.LinkFlow.{LinkFlow}
use Rattle.amqp_txn_types.specs.declared.performatives.Source.{Source}
use Rattle.amqp_txn_types.specs.declared.performatives.Target.{Target}
use Rattle.amqp_txn_types.specs.declared.performatives.Transfer.{Transfer}
use Rattle.amqp_txn_types.specs.declared.small.Handle.{Handle}
use Rattle.amqp_txn_types.specs.declared.small.ReceiverSettleMode.TheVariants as receivers
use Rattle.amqp_txn_types.specs.declared.small.Role.{Role}
use Rattle.amqp_txn_types.specs.declared.small.SenderSettleMode.TheVariants as senders
use Rattle.amqp_txn_types.specs.declared.text.Text.{Text}

-- a begin that answers none, with any handle allowed and no capabilities or properties (2.7.2, begin)
abbrev pub plain_begin : ℕ → ℕ → ℕ → Begin
plain_begin next_outgoing_id incoming_window outgoing_window = record {
  remote_channel = None;
  next_outgoing_id = next_outgoing_id;
  incoming_window = incoming_window;
  outgoing_window = outgoing_window;
  handle_max = record { 0 = 4294967295 };
  offered_capabilities = None;
  desired_capabilities = None;
  properties = None;
}

-- a source that names nothing (part 3, 3.5.3, source)
abbrev pub plain_source : Source
plain_source = record {
  address = None;
  dynamic = false;
  dynamic_node_properties = None;
  outcomes = None;
  capabilities = None;
}

-- a target that names nothing (part 3, 3.5.4, target)
abbrev pub plain_target : Target
plain_target = record {
  address = None;
  dynamic = false;
  dynamic_node_properties = None;
  capabilities = None;
}

-- an attach without termini, whose sender may settle or not and whose receiver settles at once
-- (2.7.3, attach)
abbrev pub plain_attach : Text → Handle → Role → Attach
plain_attach name handle role = record {
  name = name;
  handle = handle;
  role = role;
  snd_settle_mode = senders.Mixed;
  rcv_settle_mode = receivers.First;
  source = None;
  target = None;
  initial_delivery_count = None;
  max_message_size = None;
  offered_capabilities = None;
  desired_capabilities = None;
  properties = None;
}

-- the flow state of a session alone (2.7.4, flow)
abbrev pub plain_flow : ℕ → ℕ → ℕ → Flow
plain_flow incoming_window next_outgoing_id outgoing_window = record {
  next_incoming_id = None;
  incoming_window = incoming_window;
  next_outgoing_id = next_outgoing_id;
  outgoing_window = outgoing_window;
  handle = None;
  delivery_count = None;
  link_credit = None;
  available = None;
  drain = false;
  echo = false;
  properties = None;
}

-- a flow of a link that says nothing of its state (2.7.4, flow)
abbrev pub plain_link_flow : Handle → LinkFlow
plain_link_flow handle = record {
  handle = handle;
  delivery_count = None;
  link_credit = None;
  available = None;
  drain = false;
  echo = false;
  properties = None;
}

-- a transfer that says nothing of its delivery, and is the last of it (2.7.5, transfer)
abbrev pub plain_transfer : Handle → Transfer
plain_transfer handle = record {
  handle = handle;
  delivery_id = None;
  delivery_tag = None;
  message_format = None;
  settled = None;
  more = false;
  rcv_settle_mode = None;
  resume = false;
  aborted = false;
  batchable = false;
  state = None;
}

-- a disposition of one delivery, unsettled and without a state (2.7.6, disposition)
abbrev pub plain_disposition : Role → ℕ → Disposition
plain_disposition role first = record {
  role = role;
  first = first;
  last = None;
  settled = false;
  state = None;
  batchable = false;
}

-- a detach without an error, after which the link can be attached again (2.7.7, detach)
abbrev pub plain_detach : Handle → Detach
plain_detach handle = record {
  handle = handle;
  closed = false;
  error = None;
}

-- an end without an error (2.7.8, end)
abbrev pub plain_end : End
plain_end = record {
  error = None;
}

-- an error that is known by its condition alone (2.8.14, error)
abbrev pub plain_error : ErrorCondition → Error
plain_error condition = record {
  condition = condition;
  description = None;
  info = None;
}

-- a rejection without a reason (part 3, 3.4.3, rejected)
abbrev pub plain_rejected : Rejected
plain_rejected = record {
  error = None;
}

-- a modification that names no change (part 3, 3.4.5, modified)
abbrev pub plain_modified : Modified
plain_modified = record {
  delivery_failed = None;
  undeliverable_here = None;
  message_annotations = None;
}

-- the state of what is under a transaction, without an outcome (part 4, 4.5.6, transactional state)
abbrev pub plain_transactional_state : TransactionId → TransactionalState
plain_transactional_state txn_id = record {
  txn_id = txn_id;
  outcome = None;
}
