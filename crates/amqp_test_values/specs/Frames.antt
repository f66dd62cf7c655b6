-- The performatives that tests use.
use Rattle.std.specs.Prelude.{ℕ, true, false, Option, None, List, [], ◌∷◌}
use Rattle.amqp_txn_types.specs.declared.delivery.DeliveryState.{DeliveryState}
use Rattle.amqp_txn_types.specs.declared.delivery.DeliveryState.TheVariants as states
use Rattle.amqp_txn_types.specs.declared.id.TransactionId.{TransactionId}
use Rattle.amqp_txn_types.specs.declared.performatives.Attach.{Attach}
use Rattle.amqp_txn_types.specs.declared.performatives.Begin.{Begin}
use Rattle.amqp_txn_types.specs.declared.performatives.Detach.{Detach}
use Rattle.amqp_txn_types.specs.declared.performatives.Disposition.{Disposition}
use Rattle.amqp_txn_types.specs.declared.performatives.Flow.{Flow}
use Rattle.amqp_txn_types.specs.declared.performatives.Frame.{Frame}
use Rattle.amqp_txn_types.specs.declared.performatives.Frame.TheVariants as frames
use Rattle.amqp_txn_types.specs.declared.performatives.TargetArchetype.{TargetArchetype}
use Rattle.amqp_txn_types.specs.declared.performatives.TargetArchetype.TheVariants as targets
use Rattle.amqp_txn_types.specs.declared.performatives.Transfer.{Transfer}
use Rattle.amqp_txn_types.specs.declared.small.Handle.{Handle}
use Rattle.amqp_txn_types.specs.declared.small.ReceiverSettleMode.TheVariants as receivers
use Rattle.amqp_txn_types.specs.declared.small.Role.TheVariants as roles
use Rattle.amqp_txn_types.specs.declared.small.SenderSettleMode.TheVariants as senders
use Rattle.amqp_txn_types.specs.declared.text.Text.{Text}

-- a begin with windows of two transfers
abbrev pub begin_of : ℕ → Begin
begin_of handle_max = record {
  remote_channel = None;
  next_outgoing_id = 0;
  incoming_window = 2;
  outgoing_window = 2;
  handle_max = record { 0 = handle_max };
  offered_capabilities = None;
  desired_capabilities = None;
  properties = None;
}

-- the attach of a sender
abbrev pub attach_of : Text → ℕ → Option TargetArchetype → Attach
attach_of name handle target = record {
  name = name;
  handle = record { 0 = handle };
  role = roles.Sender;
  snd_settle_mode = senders.Mixed;
  rcv_settle_mode = receivers.First;
  source = None;
  target = target;
  initial_delivery_count = None;
  max_message_size = None;
  offered_capabilities = None;
  desired_capabilities = None;
  properties = None;
}

-- what makes the link of an attach a control link
abbrev pub control_target : TargetArchetype
control_target = targets.Coordinator (record { capabilities = None })

-- a transfer that says nothing of its delivery
abbrev pub transfer_of : ℕ → Transfer
transfer_of handle = record {
  handle = record { 0 = handle };
  delivery_id = None;
  delivery_tag = None;
  message_format = None;
  settled = None;
  more = false;
  rcv_settle_mode = None;
  state = None;
  resume = false;
  aborted = false;
  batchable = false;
}

-- a receiver's disposition of one delivery, settled and without a state
abbrev pub disposition_of : ℕ → Disposition
disposition_of delivery = record {
  role = roles.Receiver;
  first = delivery;
  last = None;
  settled = true;
  state = None;
  batchable = false;
}

-- work as it is handed: a transfer on a handle, of one octet, and a disposition
abbrev pub work_of : ℕ → List Frame
work_of handle =
    frames.Transfer (transfer_of handle) (109 ∷ []) ∷ frames.Disposition (disposition_of 0) ∷ []

-- a detach that closes its link
abbrev pub detach_of : ℕ → Detach
detach_of handle = record { handle = record { 0 = handle }; closed = true; error = None }

-- a flow of windows of two transfers
abbrev pub flow_of : Option Handle → Flow
flow_of handle = record {
  next_incoming_id = None;
  incoming_window = 2;
  next_outgoing_id = 0;
  outgoing_window = 2;
  handle = handle;
  delivery_count = None;
  link_credit = None;
  available = None;
  drain = false;
  echo = false;
  properties = None;
}

-- the state of what is under an id
abbrev pub state_under : TransactionId → DeliveryState
state_under id = states.TransactionalState (record { txn_id = id; outcome = None })
