-- What an acceptor answers, and what that leaves of the session.
use Rattle.std.specs.Prelude.{◌≡◌, ◌⊎◌, Option, None, Result, Ok, Err, List}
use Rattle.amqp_txn_types.specs.declared.delivery.SessionStopReason.{SessionStopReason}
use Rattle.amqp_txn_types.specs.declared.small.OutputHandle.{OutputHandle}
use Rattle.amqp_txn_types.specs.declared.performatives.Frame.{Frame}
use Rattle.amqp_txn_types.specs.declared.text.Text.{Text}
use Rattle.amqp_txn_types.specs.Counts.{Rose}
use Rattle.amqp_below_layer.specs.declared.inner_error.SessionInnerError.TheVariants as faults
use Rattle.amqp_below_layer.specs.Told.{Steady, Told}
use Rattle.amqp_below_sessions.specs.Names.{Names, Placed, SameNames}
use Rattle.amqp_below_sessions.specs.Sessions.{StoppedBy}
use Rattle.amqp_below_sessions.specs.declared.relay.NameState.TheVariants.{Taken}
use Rattle.amqp_below_sessions.specs.declared.attach_errors.ReceiverAttachError.{ReceiverAttachError}
use Rattle.amqp_below_sessions.specs.declared.attach_errors.ReceiverAttachError.TheVariants as receivers
use Rattle.amqp_below_sessions.specs.declared.attach_errors.SenderAttachError.{SenderAttachError}
use Rattle.amqp_below_sessions.specs.declared.attach_errors.SenderAttachError.TheVariants as senders
use Rattle.amqp_below_sessions.specs.AttachErrors.{receiver_error, sender_error}
use Rattle.amqp_accept_links.specs.declared.open_link.Opening.{Opening}
use Rattle.amqp_accept_links.specs.declared.open_link.OpenError.{OpenError}
use Rattle.amqp_accept_links.specs.declared.open_link.OpenError.TheVariants as errors

-- why a receiving end isn't attached whose link isn't opened: out of memory stays that
abbrev pub receiver_refusal : OpenError → ReceiverAttachError
receiver_refusal (errors.Alloc error) = receiver_error error
receiver_refusal (errors.Session faults.NoMemory) = receivers.NoMemory
receiver_refusal (errors.Session error) = receivers.Session error

-- why a sending end isn't attached whose link isn't opened: out of memory stays that
abbrev pub sender_refusal : OpenError → SenderAttachError
sender_refusal (errors.Alloc error) = sender_error error
sender_refusal (errors.Session faults.NoMemory) = senders.NoMemory
sender_refusal (errors.Session error) = senders.Session error

-- an attach is accepted: the acceptor lacks memory before it asks the session, or the link that it
-- makes ready is opened by the session's calls, and it answers by that
abbrev pub AcceptsBy : {S A E : Type 0} → (Opening → Type 0)
    → (S → S → Opening → Result (OutputHandle × List Frame) OpenError → Type 0)
    → (Opening → Result (OutputHandle × List Frame) OpenError → Result A E) → E → S → S
    → Result A E → Type 0
AcceptsBy Ready Opens answer no_memory old new result =
    ((result ≡ Err no_memory) × (new ≡ old))
    ⊎ ((opening : Opening) × (opened : Result (OutputHandle × List Frame) OpenError)
    × Ready opening × Opens old new opening opened × (result ≡ answer opening opened))

-- the fact holds where a receiving end was refused but where memory runs out or its kind of target
abbrev pub OnReceiverRefusal : {A : Type 0} → Result A ReceiverAttachError → Type 0 → Type 0
OnReceiverRefusal (Err (receivers.Alloc error)) P = P
OnReceiverRefusal (Err (receivers.Session error)) P = P
OnReceiverRefusal _ P = Unit {0}

-- a refused allocation of a receiving end tells a stop only where that is kept
abbrev pub ReceiverToldStop : Option SessionStopReason → ReceiverAttachError → Type 0
ReceiverToldStop stop (receivers.Alloc error) = StoppedBy {T = OutputHandle} stop (Err error)
ReceiverToldStop stop _ = Unit {0}

-- the same of a sending end
abbrev pub SenderToldStop : Option SessionStopReason → SenderAttachError → Type 0
SenderToldStop stop (senders.Alloc error) = StoppedBy {T = OutputHandle} stop (Err error)
SenderToldStop stop _ = Unit {0}

-- a link is accepted only where no reason is kept why the session stopped, and a reason that is
-- told is the one that is kept
abbrev pub AcceptStoppedBy : {A E : Type 0} → (Option SessionStopReason → E → Type 0)
    → Option SessionStopReason → Result A E → Type 0
AcceptStoppedBy Tells stop (Ok accepted) = stop ≡ None
AcceptStoppedBy Tells stop (Err error) = Tells stop error

-- accepting for a receiving end adds to no list, and each refusal of the session is counted
pub record ReceiverTold {A : Type 0} (old new : Told) (result : Result A ReceiverAttachError)
    : Type 0 where
  pub steady : Steady old new
  pub cause : OnReceiverRefusal result (Rose old.refusals new.refusals)

-- a link that is accepted is placed under a name that was unknown and under the output handle that
-- the answer tells; an Err leaves the names
abbrev pub AcceptLeaves : {A E : Type 0} → (A → OutputHandle) → Names → Names → Text → Result A E
    → Type 0
AcceptLeaves output old new name (Ok accepted) = Placed old new name Taken (output accepted)
AcceptLeaves output old new name (Err error) = SameNames old new
