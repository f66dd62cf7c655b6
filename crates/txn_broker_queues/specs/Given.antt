-- What a broker refuses, and what it gives back.
use Rattle.std.specs.Prelude.{ℕ, ◌||◌, ◌++◌, Bool, false, cond, Option, Some, None, List, [], ◌∷◌, is_some, length, map, nat_le, take}
use Rattle.std.specs.Int.{to_be_bytes, w32}
use Rattle.amqp_txn_types.specs.declared.performatives.Attach.{Attach}
use Rattle.amqp_txn_types.specs.declared.performatives.Detach.{Detach}
use Rattle.amqp_txn_types.specs.declared.performatives.Flow.{Flow}
use Rattle.amqp_txn_types.specs.declared.performatives.Frame.{Frame}
use Rattle.amqp_txn_types.specs.declared.performatives.Frame.TheVariants as frames
use Rattle.amqp_txn_types.specs.declared.performatives.Transfer.{Transfer}
use Rattle.amqp_txn_types.specs.declared.small.Handle.{Handle}
use Rattle.amqp_txn_types.specs.declared.small.Role.{Role}
use Rattle.amqp_txn_types.specs.declared.small.Role.TheVariants as roles
use Rattle.amqp_below_layer.specs.declared.inner_error.SessionInnerError.{SessionInnerError}
use Rattle.amqp_below_layer.specs.declared.inner_error.SessionInnerError.TheVariants as faults
use Rattle.txn_broker_queues.specs.declared.message.Message.{Message}
use Rattle.txn_broker_queues.specs.Queues.{Linked, address_of, is_sender, link_after, messages, queue}

-- how many messages are numbered: the last number is 4,294,967,294
abbrev pub max_messages : ℕ
max_messages = 4294967295

-- ---- refusals

-- an attach is refused where its handle is attached, or it names no address
abbrev pub attach_refusal : Option Linked → Option (List ℕ) → Option SessionInnerError
attach_refusal (Some link) address = Some faults.HandleInUse
attach_refusal None None = Some faults.IllegalState
attach_refusal None (Some address) = None

-- all numbers are given to messages
abbrev pub are_taken : ℕ → Bool
are_taken count = nat_le max_messages count

-- a transfer is refused where its handle isn't attached or the peer is the link's receiver, and
-- where it isn't a whole message, or all numbers are taken
abbrev pub transfer_refusal : Transfer → ℕ → Option Linked → Option SessionInnerError
transfer_refusal transfer count None = Some faults.UnattachedHandle
transfer_refusal transfer count (Some link) = cond (is_sender link.peer)
    (cond (transfer.more || transfer.aborted || are_taken count) (Some faults.IllegalState) None)
    (Some faults.TransferFrameToSender)

-- a frame of a handle is refused where that isn't attached
abbrev pub handle_refusal : Option Linked → Option SessionInnerError
handle_refusal None = Some faults.UnattachedHandle
handle_refusal (Some link) = None

abbrev pub flow_refusal : List Frame → Option Handle → Option SessionInnerError
flow_refusal taken None = None
flow_refusal taken (Some handle) = handle_refusal (link_after taken handle.0)

-- why a frame is refused that comes after these, memory apart
abbrev pub refusal : List Frame → Frame → Option SessionInnerError
refusal taken (frames.Attach attach) =
    attach_refusal (link_after taken attach.handle.0) (address_of attach)
refusal taken (frames.Flow flow) = flow_refusal taken flow.handle
refusal taken (frames.Transfer transfer payload) =
    transfer_refusal transfer (length (messages taken)) (link_after taken transfer.handle.0)
refusal taken (frames.Disposition d) = None
refusal taken (frames.Detach detach) = handle_refusal (link_after taken detach.handle.0)

-- one of some frames would be refused, each counted with those before it
abbrev pub any_refused : List Frame → List Frame → Bool
any_refused taken [] = false
any_refused taken (frame ∷ rest) =
    is_some (refusal taken frame) || any_refused (taken ++ frame ∷ []) rest

-- ---- what is given back

-- the other end
abbrev pub other_role : Role → Role
other_role roles.Sender = roles.Receiver
other_role roles.Receiver = roles.Sender

-- the delivery count that an end begins with: a sender's is 0
abbrev pub first_count : Role → Option ℕ
first_count roles.Sender = Some 0
first_count roles.Receiver = None

-- the attach of the broker's end
abbrev pub attach_back : Attach → Attach
attach_back attach = record {
  name = attach.name;
  handle = attach.handle;
  role = other_role attach.role;
  snd_settle_mode = attach.snd_settle_mode;
  rcv_settle_mode = attach.rcv_settle_mode;
  source = attach.source;
  target = attach.target;
  initial_delivery_count = first_count (other_role attach.role);
  max_message_size = None;
  offered_capabilities = None;
  desired_capabilities = None;
  properties = None;
}

-- the credit that a sender is given
abbrev pub first_credit : ℕ
first_credit = 200

-- the flow that gives a sender credit
abbrev pub flow_back : Handle → Flow
flow_back handle = record {
  next_incoming_id = Some 0;
  incoming_window = 2048;
  next_outgoing_id = 0;
  outgoing_window = 2048;
  handle = Some handle;
  delivery_count = Some 0;
  link_credit = Some first_credit;
  available = None;
  drain = false;
  echo = false;
  properties = None;
}

-- what is given back for an attach
abbrev pub attach_given : Attach → List Frame
attach_given attach = frames.Attach (attach_back attach)
    ∷ cond (is_sender attach.role) (frames.Flow (flow_back attach.handle) ∷ []) []

-- the transfer of a message: its number is the delivery's
abbrev pub transfer_back : Handle → ℕ → Transfer
transfer_back handle number = record {
  handle = handle;
  delivery_id = Some number;
  delivery_tag = Some (to_be_bytes w32 number);
  message_format = Some 0;
  settled = None;
  more = false;
  rcv_settle_mode = None;
  state = None;
  resume = false;
  aborted = false;
  batchable = false;
}

abbrev pub message_back : Handle → Message → Frame
message_back handle message =
    frames.Transfer (transfer_back handle message.number) message.payload

-- a receiver's credit brings the first messages of its queue, as many as it is
abbrev pub credit_back : List Frame → Handle → Option ℕ → Option Linked → List Frame
credit_back taken handle credit None = []
credit_back taken handle None (Some link) = []
credit_back taken handle (Some credit) (Some link) = cond (is_sender link.peer) []
    (map (message_back handle) (take credit (queue taken link.address)))

abbrev pub flow_given : List Frame → Option Handle → Option ℕ → List Frame
flow_given taken None credit = []
flow_given taken (Some handle) credit =
    credit_back taken handle credit (link_after taken handle.0)

-- what is given back for a detach
abbrev pub detach_given : Detach → List Frame
detach_given detach = frames.Detach
    (record { handle = detach.handle; closed = detach.closed; error = None }) ∷ []

-- what is given back for a frame that is taken after these
abbrev pub given_back : List Frame → Frame → List Frame
given_back taken (frames.Attach attach) = attach_given attach
given_back taken (frames.Flow flow) = flow_given taken flow.handle flow.link_credit
given_back taken (frames.Transfer transfer payload) = []
given_back taken (frames.Disposition d) = []
given_back taken (frames.Detach detach) = detach_given detach

-- these frames, which come after some, each with what is given back for it
abbrev pub answered_after : List Frame → List Frame → List (Frame × List Frame)
answered_after taken [] = []
answered_after taken (frame ∷ rest) =
    (frame, given_back taken frame) ∷ answered_after (taken ++ frame ∷ []) rest

-- the frames that were taken, each with what is given back for it after those before it
abbrev pub answered : List Frame → List (Frame × List Frame)
answered taken = answered_after [] taken
