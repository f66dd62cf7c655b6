-- When a plain session refuses, and with which fault.
use Rattle.std.specs.Prelude.{ℕ, ◌≡◌, ◌/◌, ◌&&◌, Bool, true, false, cond, nat_le, Option, Some, None, Result, Ok, Err, List}
use Rattle.amqp_txn_types.specs.declared.text.Text.{Text}
use Rattle.amqp_txn_types.specs.declared.small.Handle.{Handle}
use Rattle.amqp_txn_types.specs.declared.small.InputHandle.{InputHandle}
use Rattle.amqp_txn_types.specs.declared.small.Role.{Role}
use Rattle.amqp_txn_types.specs.declared.small.Role.TheVariants as roles
use Rattle.amqp_txn_types.specs.declared.small.SessionState.{SessionState}
use Rattle.amqp_txn_types.specs.declared.small.SessionState.TheVariants as states
use Rattle.amqp_txn_types.specs.declared.delivery.SessionStopReason.{SessionStopReason}
use Rattle.amqp_txn_types.specs.declared.performatives.Attach.{Attach}
use Rattle.amqp_below_layer.specs.declared.inner_error.SessionInnerError.{SessionInnerError}
use Rattle.amqp_below_layer.specs.declared.inner_error.SessionInnerError.TheVariants as faults
use Rattle.amqp_below_sessions.specs.declared.session_errors.AllocLinkError.{AllocLinkError}
use Rattle.amqp_below_sessions.specs.declared.session_errors.BeginError.{BeginError}
use Rattle.amqp_below_sessions.specs.declared.session_errors.BeginError.TheVariants as begins
use Rattle.amqp_below_sessions.specs.declared.session_errors.AllocLinkError.TheVariants as refusals
use Rattle.amqp_below_sessions.specs.declared.links.Link.{Link}
use Rattle.amqp_below_sessions.specs.declared.relay.NameState.{NameState}
use Rattle.amqp_below_sessions.specs.declared.relay.NameState.TheVariants.{Unknown, Waiting}
use Rattle.amqp_below_sessions.specs.Links.{LinkTable, link_mapped, name_state_of, output_mapped}

-- exactly this fault where there is one; where there is none, an Ok or out of memory
abbrev pub RefusedBy : {T : Type 0} → Option SessionInnerError → Result T SessionInnerError → Type 0
RefusedBy (Some fault) (Ok value) = ⊥
RefusedBy (Some fault) (Err error) = error ≡ fault
RefusedBy None (Ok value) = Unit {0}
RefusedBy None (Err error) = error ≡ faults.NoMemory

-- exactly this fault where there is one, else an Ok
abbrev pub RefusedOnlyBy :
    {T : Type 0} → Option SessionInnerError → Result T SessionInnerError → Type 0
RefusedOnlyBy (Some fault) (Ok value) = ⊥
RefusedOnlyBy (Some fault) (Err error) = error ≡ fault
RefusedOnlyBy None (Ok value) = Unit {0}
RefusedOnlyBy None (Err error) = ⊥

-- the fault of a call that only a mapped session takes
abbrev pub mapped_fault : SessionState → Option SessionInnerError → Option SessionInnerError
mapped_fault states.Mapped fault = fault
mapped_fault _ fault = Some faults.IllegalState

-- the fault of a handle, by the link that it is mapped to
abbrev pub handle_fault : Option Link → Option SessionInnerError
handle_fault None = Some faults.UnattachedHandle
handle_fault (Some link) = None

-- the fault of an attach, by the link that its handle is mapped to
abbrev pub attaching_fault : Option ℕ → Option SessionInnerError
attaching_fault None = None
attaching_fault (Some output) = Some faults.HandleInUse

-- the fault of an attach, by how its name is known and by the output handle of its handle
abbrev pub attach_fault_by : NameState → Option ℕ → Option SessionInnerError
attach_fault_by Waiting output = attaching_fault output
attach_fault_by _ output = Some faults.RemoteAttachingLinkNameNotFound

-- a handle of the peer's
abbrev pub input_of : Handle → InputHandle
input_of handle = record { 0 = handle.0 }

-- the fault of an attach
abbrev pub attach_fault : List (Option Link) → Attach → Option SessionInnerError
attach_fault slots attach =
    attach_fault_by (name_state_of slots attach.name) (output_mapped slots (input_of attach.handle))

-- the fault of a flow, which may name no link
abbrev pub flow_fault : List (Option Link) → Option Handle → Option SessionInnerError
flow_fault slots None = None
flow_fault slots (Some handle) = handle_fault (link_mapped slots (input_of handle))

-- the fault of a transfer, by the end of the link that is this side's
abbrev pub transfer_fault_by : Role → Option SessionInnerError
transfer_fault_by roles.Sender = Some faults.TransferFrameToSender
transfer_fault_by roles.Receiver = None

-- the fault of a transfer, by its link
abbrev pub transfer_fault : Option Link → Option SessionInnerError
transfer_fault None = Some faults.UnattachedHandle
transfer_fault (Some link) = transfer_fault_by link.relay.role

-- the fault of a link to be placed, but for a stop reason: its name is in use, or no handle is left
abbrev pub place_fault_by : NameState → Bool → Option AllocLinkError
place_fault_by Unknown room = cond room None (Some refusals.HandleMaxReached)
place_fault_by _ room = Some refusals.DuplicatedLinkName

-- the fault of a link to be placed, but for a stop reason
abbrev pub place_fault : LinkTable → Handle → Text → Option AllocLinkError
place_fault links handle_max name =
    place_fault_by (name_state_of links.slots name) (nat_le links.next handle_max.0)

-- and then whether its input handle is in use
abbrev pub input_fault_by : Option AllocLinkError → Option ℕ → Option AllocLinkError
input_fault_by (Some fault) output = Some fault
input_fault_by None None = None
input_fault_by None (Some output) = Some refusals.HandleInUse

-- the fault of a link to be placed with an input handle, but for a stop reason
abbrev pub place_mapped_fault : LinkTable → Handle → Text → InputHandle → Option AllocLinkError
place_mapped_fault links handle_max name input =
    input_fault_by (place_fault links handle_max name) (output_mapped links.slots input)

-- exactly this fault where there is one; where there is none, an Ok or out of memory
abbrev pub PlacedBy : {T : Type 0} → Option AllocLinkError → Result T AllocLinkError → Type 0
PlacedBy (Some fault) (Ok value) = ⊥
PlacedBy (Some fault) (Err error) = error ≡ fault
PlacedBy None (Ok value) = Unit {0}
PlacedBy None (Err error) = error ≡ refusals.NoMemory

-- the stop reason that is kept, or out of memory for a copy of it
abbrev pub IsStopFault : SessionStopReason → AllocLinkError → Type 0
IsStopFault reason refusals.NoMemory = Unit {0}
IsStopFault reason error = error ≡ refusals.SessionStopped reason

-- a stop reason is the first fault of an allocation
abbrev pub AllocatedBy :
    {T : Type 0} → Option SessionStopReason → Option AllocLinkError → Result T AllocLinkError
    → Type 0
AllocatedBy (Some reason) fault (Ok value) = ⊥
AllocatedBy (Some reason) fault (Err error) = IsStopFault reason error
AllocatedBy None fault result = PlacedBy fault result

-- a fault of an allocation as that of the attach of a control link
abbrev pub control_error : AllocLinkError → SessionInnerError
control_error refusals.NoMemory = faults.NoMemory
control_error (refusals.SessionStopped reason) = faults.IllegalState
control_error refusals.DuplicatedLinkName = faults.HandleInUse
control_error refusals.HandleInUse = faults.HandleInUse
control_error refusals.HandleMaxReached = faults.HandleInUse

-- the fault of the attach of a control link, by that of the link to be placed
abbrev pub control_fault_by : Option AllocLinkError → Option SessionInnerError
control_fault_by None = None
control_fault_by (Some fault) = Some (control_error fault)

-- the fault of the attach of a control link
abbrev pub control_fault :
    Option SessionStopReason → Option AllocLinkError → Option SessionInnerError
control_fault (Some reason) fault = Some faults.IllegalState
control_fault None fault = control_fault_by fault

-- a first transfer needs a tag
abbrev pub outgoing_fault : Bool → Bool → Option SessionInnerError
outgoing_fault true false = Some faults.IllegalState
outgoing_fault true true = None
outgoing_fault false tagged = None

-- the flow that tells the session's window is due: the transfers that came since the last one are
-- one at least, and half of the window
abbrev pub is_due : SessionState → ℕ → ℕ → Bool
is_due states.Mapped came window = nat_le 1 came && nat_le (window / 2) came
is_due _ came window = false

-- the fault of a call that moves the state
abbrev pub move_fault : Option SessionState → Option SessionInnerError
move_fault None = Some faults.IllegalState
move_fault (Some state) = None

-- a begin is refused exactly where the state has none to send; else it is an Ok or out of memory
abbrev pub BegunBy : {T : Type 0} → Option SessionState → Result T BeginError → Type 0
BegunBy None (Ok begin) = ⊥
BegunBy None (Err error) = error ≡ begins.IllegalState
BegunBy (Some state) (Ok begin) = Unit {0}
BegunBy (Some state) (Err error) = error ≡ begins.NoMemory
