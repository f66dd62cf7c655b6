-- What a link acceptor answers. Part 2 of the standard, section 2.6.3 (establishing a link).
use Rattle.std.specs.Prelude.{◌≡◌, ◌⊎◌, Bool, true, false, Option, Some, None, Result, Ok, Err, List}
use Rattle.amqp_txn_types.specs.declared.delivery.SessionStopReason.{SessionStopReason}
use Rattle.amqp_txn_types.specs.declared.performatives.Attach.{Attach}
use Rattle.amqp_txn_types.specs.declared.performatives.Frame.{Frame}
use Rattle.amqp_txn_types.specs.declared.performatives.Source.{Source}
use Rattle.amqp_txn_types.specs.declared.performatives.Target.{Target}
use Rattle.amqp_txn_types.specs.declared.small.OutputHandle.{OutputHandle}
use Rattle.amqp_txn_types.specs.declared.small.Role.{Role}
use Rattle.amqp_txn_types.specs.declared.small.Role.TheVariants as roles
use Rattle.amqp_txn_types.specs.Counts.{Rose}
use Rattle.amqp_txn_types.specs.Frames.{attaches_coordinator}
use Rattle.amqp_below_layer.specs.Told.{Steady, Told}
use Rattle.amqp_links.specs.ReceiverWire.{ReceiverWire}
use Rattle.amqp_links.specs.SenderWire.{SenderWire}
use Rattle.amqp_below_sessions.specs.declared.attach_errors.ReceiverAttachError.{ReceiverAttachError}
use Rattle.amqp_below_sessions.specs.declared.attach_errors.ReceiverAttachError.TheVariants as receivers
use Rattle.amqp_below_sessions.specs.declared.attach_errors.SenderAttachError.{SenderAttachError}
use Rattle.amqp_below_sessions.specs.declared.attach_errors.SenderAttachError.TheVariants as senders
use Rattle.amqp_accept_links.specs.declared.endpoint.AcceptorAttachError.{AcceptorAttachError}
use Rattle.amqp_accept_links.specs.declared.endpoint.AcceptorAttachError.TheVariants as errors
use Rattle.amqp_accept_links.specs.declared.endpoint.LinkEndpoint.{LinkEndpoint}
use Rattle.amqp_accept_links.specs.declared.endpoint.LinkEndpoint.TheVariants as endpoints
use Rattle.amqp_accept_links.specs.declared.link.LinkAcceptor.{LinkAcceptor}
use Rattle.amqp_accept_links.specs.declared.open_link.Opening.{Opening}
use Rattle.amqp_accept_links.specs.declared.open_link.OpenError.{OpenError}
use Rattle.amqp_accept_links.specs.declared.receiver.LocalReceiverLinkAcceptor.{LocalReceiverLinkAcceptor}
use Rattle.amqp_accept_links.specs.declared.sender.LocalSenderLinkAcceptor.{LocalSenderLinkAcceptor}
use Rattle.amqp_accept_links.specs.Acceptance.{OnReceiverRefusal, ReceiverToldStop, SenderToldStop}
use Rattle.amqp_accept_links.specs.Receivers.{AcceptsTarget}
use Rattle.amqp_accept_links.specs.Senders.{AcceptsSource, OnSenderRefusal}

-- the answer of a local receiver as that of the acceptor
abbrev pub as_receiver : Result (ReceiverWire × List Frame) ReceiverAttachError
    → Result (LinkEndpoint × List Frame) AcceptorAttachError
as_receiver (Ok accepted) = Ok (endpoints.Receiver accepted.0, accepted.1)
as_receiver (Err error) = Err (errors.LocalReceiver error)

-- the answer of a local sender as that of the acceptor
abbrev pub as_sender : Result (SenderWire × List Frame) SenderAttachError
    → Result (LinkEndpoint × List Frame) AcceptorAttachError
as_sender (Ok accepted) = Ok (endpoints.Sender accepted.0, accepted.1)
as_sender (Err error) = Err (errors.LocalSender error)

-- the output handle of a local end that was accepted
abbrev pub end_output : LinkEndpoint → OutputHandle
end_output (endpoints.Sender wire) = wire.end.output
end_output (endpoints.Receiver wire) = wire.end.output

-- the output handle under which a link was accepted
abbrev pub link_output : LinkEndpoint × List Frame → OutputHandle
link_output accepted = end_output accepted.0

-- out of memory at the local end, by the peer's role
abbrev pub no_memory_for : Role → AcceptorAttachError
no_memory_for roles.Sender = errors.LocalReceiver receivers.NoMemory
no_memory_for roles.Receiver = errors.LocalSender senders.NoMemory

-- the session had stopped for this reason, or memory lacks to say so
abbrev pub TellsStop : SessionStopReason → Role → AcceptorAttachError → Type 0
TellsStop reason role error = (error ≡ errors.SessionStopped reason) ⊎ (error ≡ no_memory_for role)

-- a peer's sender gives a local receiver, and the reverse
abbrev pub AcceptsByRole : Role → (Result (ReceiverWire × List Frame) ReceiverAttachError → Type 0)
    → (Result (SenderWire × List Frame) SenderAttachError → Type 0)
    → Result (LinkEndpoint × List Frame) AcceptorAttachError → Type 0
AcceptsByRole roles.Sender Receives Sends result =
    (answer : Result (ReceiverWire × List Frame) ReceiverAttachError)
    × Receives answer × (result ≡ as_receiver answer)
AcceptsByRole roles.Receiver Receives Sends result =
    (answer : Result (SenderWire × List Frame) SenderAttachError)
    × Sends answer × (result ≡ as_sender answer)

-- the local end of a link whose target isn't a coordinator: what an acceptor with these rules
-- answers to the peer's attach
abbrev pub AcceptsEnd : {FS FT S : Type 0} → (Source → Option Source → Type 0)
    → (Target → Option Target → Type 0) → LinkAcceptor FS FT → Attach
    → (S → S → Opening → Result (OutputHandle × List Frame) OpenError → Type 0)
    → S → S → Result (LinkEndpoint × List Frame) AcceptorAttachError → Type 0
AcceptsEnd source_rule target_rule acceptor remote Opens old new result =
    AcceptsByRole remote.role
    (AcceptsTarget target_rule acceptor.local_receiver_acceptor.target_capabilities
    acceptor.shared acceptor.local_receiver_acceptor.credit_mode remote Opens old new)
    (AcceptsSource source_rule acceptor.local_sender_acceptor.source_capabilities
    acceptor.shared acceptor.local_sender_acceptor.initial_delivery_count remote Opens old new)
    result

-- a coordinator isn't taken, whatever the peer's role, and the session not asked
abbrev pub AcceptsNode : {S : Type 0} → Bool
    → (Result (LinkEndpoint × List Frame) AcceptorAttachError → Type 0)
    → S → S → Result (LinkEndpoint × List Frame) AcceptorAttachError → Type 0
AcceptsNode true Accepts old new result =
    (result ≡ Err (errors.LocalReceiver receivers.CoordinatorIsNotImplemented)) × (new ≡ old)
AcceptsNode false Accepts old new result = Accepts result

-- by whether the session keeps a reason why it stopped: then nothing is accepted
abbrev pub AcceptsUnlessStopped : {S : Type 0} → Option SessionStopReason → Role
    → (Result (LinkEndpoint × List Frame) AcceptorAttachError → Type 0)
    → S → S → Result (LinkEndpoint × List Frame) AcceptorAttachError → Type 0
AcceptsUnlessStopped (Some reason) role Accepts old new (Ok accepted) = ⊥
AcceptsUnlessStopped (Some reason) role Accepts old new (Err error) =
    TellsStop reason role error × (new ≡ old)
AcceptsUnlessStopped None role Accepts old new result = Accepts result

-- what an acceptor with these rules answers to a peer's attach, by whether the session keeps a
-- reason why it stopped
abbrev pub AcceptsLink : {FS FT S : Type 0} → (Source → Option Source → Type 0)
    → (Target → Option Target → Type 0) → LinkAcceptor FS FT → Option SessionStopReason → Attach
    → (S → S → Opening → Result (OutputHandle × List Frame) OpenError → Type 0)
    → S → S → Result (LinkEndpoint × List Frame) AcceptorAttachError → Type 0
AcceptsLink source_rule target_rule acceptor stop remote Opens old new result =
    AcceptsUnlessStopped stop remote.role (AcceptsNode (attaches_coordinator remote)
    (AcceptsEnd source_rule target_rule acceptor remote Opens old new) old new) old new result

-- a stop is told only where it is kept, also by a local end
abbrev pub LinkToldStop : Option SessionStopReason → AcceptorAttachError → Type 0
LinkToldStop stop (errors.SessionStopped reason) = stop ≡ Some reason
LinkToldStop stop (errors.LocalSender error) = SenderToldStop stop error
LinkToldStop stop (errors.LocalReceiver error) = ReceiverToldStop stop error

-- the fact holds where a local end was refused but where memory runs out or its kind of target
abbrev pub OnLinkRefusal : {A : Type 0} → Result A AcceptorAttachError → Type 0 → Type 0
OnLinkRefusal {A} (Err (errors.LocalSender error)) P = OnSenderRefusal {A = A} (Err error) P
OnLinkRefusal {A} (Err (errors.LocalReceiver error)) P = OnReceiverRefusal {A = A} (Err error) P
OnLinkRefusal {A} _ P = Unit {0}

-- accepting a link adds to no list, and each refusal of the session is counted
pub record LinkTold {A : Type 0} (old new : Told) (result : Result A AcceptorAttachError)
    : Type 0 where
  pub steady : Steady old new
  pub cause : OnLinkRefusal result (Rose old.refusals new.refusals)

-- the sender with another rule for dynamic sources
abbrev pub with_source_rule : {F G : Type 0} → LocalSenderLinkAcceptor F → G
    → LocalSenderLinkAcceptor G
with_source_rule sender rule = record {
  initial_delivery_count = sender.initial_delivery_count;
  source_capabilities = sender.source_capabilities;
  on_dynamic_source = rule;
  verify_incoming_source = sender.verify_incoming_source;
  verify_incoming_target = sender.verify_incoming_target;
}

-- the receiver with another rule for dynamic targets
abbrev pub with_target_rule : {F G : Type 0} → LocalReceiverLinkAcceptor Target F → G
    → LocalReceiverLinkAcceptor Target G
with_target_rule receiver rule = record {
  credit_mode = receiver.credit_mode;
  target_capabilities = receiver.target_capabilities;
  auto_accept = receiver.auto_accept;
  on_dynamic_target = rule;
  verify_incoming_source = receiver.verify_incoming_source;
  verify_incoming_target = receiver.verify_incoming_target;
  target = receiver.target;
}
