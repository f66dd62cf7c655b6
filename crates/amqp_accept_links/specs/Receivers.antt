-- What an acceptor makes of the attach of a peer's sender. Part 2 of the standard, section 2.7.3
-- (attach), and part 4, section 4.5.1 (coordinator).
use Rattle.std.specs.Prelude.{◌≡◌, Bool, true, false, Option, Some, None, Result, Ok, Err, List, [], ◌∷◌, option_map}
use Rattle.amqp_txn_types.specs.declared.small.OutputHandle.{OutputHandle}
use Rattle.amqp_txn_types.specs.declared.small.Role.TheVariants as roles
use Rattle.amqp_txn_types.specs.declared.performatives.Attach.{Attach}
use Rattle.amqp_txn_types.specs.declared.performatives.Coordinator.{Coordinator}
use Rattle.amqp_txn_types.specs.declared.performatives.Frame.{Frame}
use Rattle.amqp_txn_types.specs.declared.performatives.Frame.TheVariants as frames
use Rattle.amqp_txn_types.specs.declared.performatives.Target.{Target}
use Rattle.amqp_txn_types.specs.declared.performatives.TargetArchetype.{TargetArchetype}
use Rattle.amqp_txn_types.specs.declared.performatives.TargetArchetype.TheVariants as targets
use Rattle.amqp_txn_types.specs.declared.performatives.LinkEnd.{LinkEnd}
use Rattle.amqp_txn_types.specs.declared.text.Symbol.{Symbol}
use Rattle.amqp_links.specs.ReceiverWire.{ReceiverWire}
use Rattle.amqp_below_sessions.specs.declared.attach_errors.ReceiverAttachError.{ReceiverAttachError}
use Rattle.amqp_below_sessions.specs.declared.attach_errors.ReceiverAttachError.TheVariants as refusals
use Rattle.amqp_accept_links.specs.declared.control.ControlLinkAcceptor.{ControlLinkAcceptor}
use Rattle.amqp_accept_links.specs.declared.credit.CreditMode.{CreditMode}
use Rattle.amqp_accept_links.specs.declared.credit.CreditMode.TheVariants as credits
use Rattle.amqp_accept_links.specs.declared.dynamic.RejectDynamic.{RejectDynamic}
use Rattle.amqp_accept_links.specs.declared.receiver.LocalReceiverLinkAcceptor.{LocalReceiverLinkAcceptor}
use Rattle.amqp_accept_links.specs.declared.fields.SharedLinkAcceptorFields.{SharedLinkAcceptorFields}
use Rattle.amqp_accept_links.specs.declared.open_link.Opening.{Opening}
use Rattle.amqp_accept_links.specs.declared.open_link.OpenError.{OpenError}
use Rattle.amqp_accept_links.specs.Acceptance.{AcceptsBy, receiver_refusal}
use Rattle.amqp_accept_links.specs.OpenLinks.{end_of, opening_of}
use Rattle.amqp_accept_links.specs.Replies.{credit_of}
use Rattle.amqp_accept_links.specs.Termini.{LocalTerminus, kind_of_target, node_target}

-- the receiving end of the peer's link with this target, ready to be opened
abbrev pub receiver_opening :
    SharedLinkAcceptorFields → CreditMode → Attach → Option TargetArchetype → Opening
receiver_opening shared credit remote target =
    opening_of shared (record remote { target = target }) roles.Receiver None
    (credit_of credit remote)

-- the receiving end of the peer's link with a local target of the kind, ready to be opened
abbrev pub ReceiverReady : {T : Type 0} → (Option T → Type 0) → (T → TargetArchetype)
    → SharedLinkAcceptorFields → CreditMode → Attach → Opening → Type 0
ReceiverReady {T} Local archetype shared credit remote opening =
    (local : Option T) × Local local
    × (opening ≡ receiver_opening shared credit remote (option_map archetype local))

-- a receiving end on which nothing was put and nothing waits
abbrev pub receiver_wire : LinkEnd → ReceiverWire
receiver_wire end = record {
  end = end;
  put = [];
  deliveries = [];
  credit = 0;
  properties = None;
  calls = record { failing = []; made = 0; faults = 0 };
}

-- the receiving end that was opened with its frames, or why it wasn't
abbrev pub receiver_answer : Opening → Result (OutputHandle × List Frame) OpenError
    → Result (ReceiverWire × List Frame) ReceiverAttachError
receiver_answer opening (Ok opened) = Ok (receiver_wire (end_of opening opened.0), opened.1)
receiver_answer opening (Err error) = Err (receiver_refusal error)

-- the output handle of a receiving end that was accepted
abbrev pub receiver_output : ReceiverWire × List Frame → OutputHandle
receiver_output accepted = accepted.0.end.output

-- by the kind of the peer's target: one of another kind isn't taken, and the session not asked
abbrev pub OfKind : {T A S : Type 0} → Option (Option T)
    → (Option T → Result A ReceiverAttachError → Type 0) → S → S → Result A ReceiverAttachError
    → Type 0
OfKind None Taken old new result =
    (result ≡ Err refusals.CoordinatorIsNotImplemented) × (new ≡ old)
OfKind (Some target) Taken old new result = Taken target result

-- a local receiver whose target is of a kind: what an acceptor answers to the attach of a peer's
-- sender
abbrev pub AcceptsReceiver : {T S : Type 0} → (T → Option T → Type 0) → (T → Bool) → (T → T)
    → (TargetArchetype → Option T) → (T → TargetArchetype)
    → SharedLinkAcceptorFields → CreditMode → Attach
    → (S → S → Opening → Result (OutputHandle × List Frame) OpenError → Type 0)
    → S → S → Result (ReceiverWire × List Frame) ReceiverAttachError → Type 0
AcceptsReceiver decides dynamic with_own of_archetype archetype shared credit remote Opens old
    new result =
    OfKind (kind_of_target of_archetype remote.target)
    (λ target answer. AcceptsBy
    (ReceiverReady (LocalTerminus decides dynamic with_own target) archetype shared credit remote)
    Opens receiver_answer refusals.NoMemory old new answer) old new result

-- the same for a target that takes messages
abbrev pub AcceptsTarget : {S : Type 0} → (Target → Option Target → Type 0)
    → Option (List Symbol) → SharedLinkAcceptorFields → CreditMode → Attach
    → (S → S → Opening → Result (OutputHandle × List Frame) OpenError → Type 0)
    → S → S → Result (ReceiverWire × List Frame) ReceiverAttachError → Type 0
AcceptsTarget decides capabilities shared credit remote Opens old new result =
    AcceptsReceiver decides (λ target. target.dynamic)
    (λ target. record target { capabilities = capabilities }) node_target targets.Target shared
    credit remote Opens old new result

-- a control link, with the acceptor's own capabilities, ready to be opened
abbrev pub control_opening : ControlLinkAcceptor → Attach → Opening
control_opening acceptor remote =
    let coordinator : Coordinator =
    record { capabilities = acceptor.receiver.target_capabilities } in
    receiver_opening acceptor.shared acceptor.receiver.credit_mode remote
    (Some (targets.Coordinator coordinator))

-- the frames of a control link that was opened, or why it wasn't
abbrev pub control_answer : Opening → Result (OutputHandle × List Frame) OpenError
    → Result (List Frame) ReceiverAttachError
control_answer opening (Ok opened) = Ok opened.1
control_answer opening (Err error) = Err (receiver_refusal error)

-- the handle of an attach that is the first of some frames, and 0 where the first is none
abbrev pub output_told : List Frame → OutputHandle
output_told (frames.Attach attach ∷ rest) = record { 0 = attach.handle.0 }
output_told _ = record { 0 = 0 }

-- it grants 200 once the link is accepted, has no capabilities, doesn't accept deliveries by
-- itself, and wants the peer's termini verified
pub record IsDefaultReceiver {T : Type 0} (receiver : LocalReceiverLinkAcceptor T RejectDynamic)
    : Type 0 where
  pub credit : receiver.credit_mode ≡ credits.Auto 200
  pub capabilities : receiver.target_capabilities ≡ None
  pub accept : receiver.auto_accept ≡ false
  pub source : receiver.verify_incoming_source ≡ true
  pub target : receiver.verify_incoming_target ≡ true
