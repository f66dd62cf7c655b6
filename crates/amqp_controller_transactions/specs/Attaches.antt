-- How a control link is attached.
use Rattle.std.specs.Prelude.{◌≡◌, ◌⊎◌, Bool, Option, Some, None, Result, Ok, Err, [], IsOk}
use Rattle.amqp_txn_types.specs.declared.delivery.SessionStopReason.{SessionStopReason}
use Rattle.amqp_txn_types.specs.declared.performatives.Attach.{Attach}
use Rattle.amqp_txn_types.specs.declared.performatives.Coordinator.{Coordinator}
use Rattle.amqp_txn_types.specs.declared.performatives.LinkEnd.{LinkEnd}
use Rattle.amqp_txn_types.specs.declared.performatives.TargetArchetype.TheVariants as targets
use Rattle.amqp_txn_types.specs.declared.small.OutputHandle.{OutputHandle}
use Rattle.amqp_txn_types.specs.declared.small.ReceiverSettleMode.TheVariants as receivers
use Rattle.amqp_txn_types.specs.declared.small.Role.TheVariants as roles
use Rattle.amqp_txn_types.specs.declared.small.SenderSettleMode.{SenderSettleMode}
use Rattle.amqp_txn_types.specs.declared.text.Text.{Text}
use Rattle.amqp_txn_types.specs.Counts.{Rose}
use Rattle.amqp_txn_types.specs.Plain.{plain_attach, plain_source}
use Rattle.amqp_below_layer.specs.declared.inner_error.SessionInnerError.{SessionInnerError}
use Rattle.amqp_below_layer.specs.Told.{Steady, Told}
use Rattle.amqp_below_sessions.specs.declared.relay.NameState.{NameState}
use Rattle.amqp_below_sessions.specs.declared.relay.NameState.TheVariants.{Waiting, Taken}
use Rattle.amqp_below_sessions.specs.declared.relay.Relay.{Relay}
use Rattle.amqp_below_sessions.specs.declared.session_errors.AllocLinkError.{AllocLinkError}
use Rattle.amqp_below_sessions.specs.Names.{Names, Placed, SameNames}
use Rattle.amqp_below_sessions.specs.declared.attach_errors.SenderAttachError.{SenderAttachError}
use Rattle.amqp_below_sessions.specs.declared.attach_errors.SenderAttachError.TheVariants as errors
use Rattle.amqp_below_sessions.specs.AttachErrors.{sender_error}
use Rattle.amqp_links.specs.declared.progress.Progress.{Progress}
use Rattle.amqp_links.specs.declared.progress.Progress.TheVariants as waits

-- the control link that is wanted
pub record Wanted : Type 0 where
  pub name : Text
  pub coordinator : Coordinator
  pub sender_settle_mode : SenderSettleMode

-- what the session passes on to the link, at first nothing
abbrev pub relay_of : Text → Relay
relay_of name = record {
  name = name;
  role = roles.Sender;
  rcv_settle_mode = receivers.First;
  flows = [];
  transfers = 0;
}

-- this end of the link
abbrev pub end_of : Wanted → OutputHandle → LinkEnd
end_of wanted output = record {
  name = wanted.name;
  role = roles.Sender;
  output = output;
  snd_settle_mode = wanted.sender_settle_mode;
  rcv_settle_mode = receivers.First;
}

-- the attach of a control link (part 4, section 4.5.1: its target is the coordinator)
abbrev pub attach_of : Wanted → OutputHandle → Attach
attach_of wanted output =
    record (plain_attach wanted.name (record { 0 = output.0 }) roles.Sender) {
      snd_settle_mode = wanted.sender_settle_mode;
      source = Some plain_source;
      target = Some (targets.Coordinator wanted.coordinator);
      initial_delivery_count = Some 0;
    }

-- what allocating a link, the check of its attach and freeing it answer and leave of a session
abbrev pub Allocates : Type 0 → Type 1
Allocates S = S → S → Text → Relay → Result OutputHandle AllocLinkError → Type 0

abbrev pub ChecksAttach : Type 0 → Type 1
ChecksAttach S = S → S → Attach → Result Unit SessionInnerError → Type 0

abbrev pub Frees : Type 0 → Type 1
Frees S = S → S → OutputHandle → Bool → Type 0

-- the session gave the link an output handle and let its attach pass
abbrev pub AttachPasses : {S : Type 0} → Allocates S → ChecksAttach S → S → S → Wanted → LinkEnd
    → Attach → Type 0
AttachPasses {S} allocates checks old new wanted end attach =
    (output : OutputHandle) × (between : S)
    × allocates old between wanted.name (relay_of wanted.name) (Ok output)
    × checks between new attach (Ok tt)
    × (end ≡ end_of wanted output) × (attach ≡ attach_of wanted output)

-- there was no memory for the link's name, and the session wasn't asked
abbrev pub Unasked : {S : Type 0} → S → S → SenderAttachError → Type 0
Unasked old new error = (error ≡ errors.NoMemory) × (new ≡ old)

-- the session gave the link no output handle
abbrev pub Unallocated : {S : Type 0} → Allocates S → S → S → Wanted → SenderAttachError → Type 0
Unallocated allocates old new wanted error =
    (refused : AllocLinkError)
    × allocates old new wanted.name (relay_of wanted.name) (Err refused)
    × (error ≡ sender_error refused)

-- the session gave the link an output handle and refused its attach; the handle was freed again
abbrev pub Unattached : {S : Type 0} → Allocates S → ChecksAttach S → Frees S → S → S → Wanted
    → SenderAttachError → Type 0
Unattached {S} allocates checks frees old new wanted error =
    (output : OutputHandle) × (placed : S) × (checked : S) × (fault : SessionInnerError)
    × (freed : Bool)
    × allocates old placed wanted.name (relay_of wanted.name) (Ok output)
    × checks placed checked (attach_of wanted output) (Err fault)
    × frees checked new output freed × (error ≡ errors.Session fault)

-- a control link is attached: one allocation, one check, and where that refused the handle is freed
abbrev pub AttachesBy : {S : Type 0} → Allocates S → ChecksAttach S → Frees S → S → S → Wanted
    → Result (LinkEnd × Attach) SenderAttachError → Type 0
AttachesBy allocates checks frees old new wanted (Ok attached) =
    AttachPasses allocates checks old new wanted attached.0 attached.1
AttachesBy allocates checks frees old new wanted (Err error) =
    Unasked old new error
    ⊎ (Unallocated allocates old new wanted error
    ⊎ Unattached allocates checks frees old new wanted error)

-- every error but out of memory is a refusal of the session that is counted
abbrev pub OnRefusal : {T : Type 0} → Result T SenderAttachError → Type 0 → Type 0
OnRefusal (Ok attached) P = Unit {0}
OnRefusal (Err errors.NoMemory) P = Unit {0}
OnRefusal (Err error) P = P

-- what an attach does to what the session tells
pub record TellsAttach {T : Type 0} (old new : Told) (result : Result T SenderAttachError)
    : Type 0 where
  pub steady : Steady old new
  pub cause : OnRefusal result (Rose old.refusals new.refusals)

-- a link that waits for the peer's attach has the name, or the names are as they were
abbrev pub NamesAttach : {T : Type 0} → Names → Names → Text → Result T SenderAttachError → Type 0
NamesAttach old new name (Ok attached) =
    (output : OutputHandle) × Placed old new name Waiting output
NamesAttach old new name (Err error) = SameNames old new

-- the error of a stop for this reason, whose copy may run out of memory
abbrev pub IsStopped : SessionStopReason → SenderAttachError → Type 0
IsStopped reason errors.NoMemory = Unit {0}
IsStopped reason error = error ≡ errors.SessionStopped reason

-- the wait is over, with an error of which this holds
abbrev pub IsReadyErr : {W C E : Type 0} → Progress W (Result C E) → (E → Type 0) → Type 0
IsReadyErr (waits.Pending wait) P = ⊥
IsReadyErr (waits.Ready (Ok answer)) P = ⊥
IsReadyErr (waits.Ready (Err error)) P = P error

-- the answer where the peer hasn't attached the link yet: the kept reason why the session stopped,
-- or else the wait goes on
abbrev pub AwaitsAttach : {C : Type 0} → Option SessionStopReason → LinkEnd
    → Progress LinkEnd (Result C SenderAttachError) → Type 0
AwaitsAttach (Some reason) end result = IsReadyErr result (IsStopped reason)
AwaitsAttach None end result = result ≡ waits.Pending end

-- it is over, with an Ok
abbrev pub IsReadyOk : {W C E : Type 0} → Progress W (Result C E) → Type 0
IsReadyOk (waits.Pending wait) = ⊥
IsReadyOk (waits.Ready result) = IsOk result

-- a poll of an attach: it is over where the peer attached the link
abbrev pub PollsAttach : {C : Type 0} → NameState → Option SessionStopReason → LinkEnd
    → Progress LinkEnd (Result C SenderAttachError) → Type 0
PollsAttach Taken stop end result = IsReadyOk result
PollsAttach state stop end result = AwaitsAttach stop end result
