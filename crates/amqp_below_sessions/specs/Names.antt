-- How a session knows names, and what its calls leave of that.
use Rattle.std.specs.Prelude.{◌≡◌, ◌≢◌, ◌⊎◌, ◌||◌, Bool, true, false, Option, Some, None, Result, Ok, Err, List}
use Rattle.std.proofs.Common.{inl, inr}
use Rattle.amqp_txn_types.specs.declared.text.Text.{Text}
use Rattle.amqp_txn_types.specs.declared.small.OutputHandle.{OutputHandle}
use Rattle.amqp_txn_types.specs.declared.performatives.Frame.{Frame}
use Rattle.amqp_txn_types.specs.declared.performatives.Frame.TheVariants as frames
use Rattle.amqp_txn_types.specs.Frames.{is_coordinator_attach}
use Rattle.amqp_below_layer.specs.declared.inner_error.SessionInnerError.{SessionInnerError}
use Rattle.amqp_below_layer.specs.declared.inner_error.SessionInnerError.TheVariants as faults
use Rattle.amqp_below_sessions.specs.declared.relay.NameState.{NameState}
use Rattle.amqp_below_sessions.specs.declared.relay.NameState.TheVariants.{Unknown, Waiting, Taken}
use Rattle.amqp_below_sessions.specs.declared.session_errors.AllocLinkError.{AllocLinkError}

-- how a session knows each name, and the name of the link under each output handle
pub record Names : Type 0 where
  pub known : Text → NameState
  pub at : OutputHandle → Option Text

-- the names are as they were
pub record SameNames (old new : Names) : Type 0 where
  pub known : (name : Text) → new.known name ≡ old.known name
  pub at : (output : OutputHandle) → new.at output ≡ old.at output

-- every other name is known as it was
abbrev pub OthersKnown : Text → Names → Names → Type 0
OthersKnown name old new = (other : Text) → other ≢ name → new.known other ≡ old.known other

-- every other output handle is as it was
abbrev pub OthersAt : OutputHandle → Names → Names → Type 0
OthersAt output old new =
    (other : OutputHandle) → other ≢ output → new.at other ≡ old.at other

-- a link of a name that was unknown was placed under an output handle that was free
pub record Placed (old new : Names) (name : Text) (state : NameState) (output : OutputHandle)
    : Type 0 where
  pub unknown : old.known name ≡ Unknown
  pub known : new.known name ≡ state
  pub others : OthersKnown name old new
  pub free : old.at output ≡ None
  pub here : new.at output ≡ Some name
  pub elsewhere : OthersAt output old new

-- an allocation places its link, and a refused one leaves the names
abbrev pub PlacesLink :
    Names → Names → Text → NameState → Result OutputHandle AllocLinkError → Type 0
PlacesLink old new name state (Ok output) = Placed old new name state output
PlacesLink old new name state (Err error) = SameNames old new

-- the link under an output handle is gone with its name
pub record Freed (old new : Names) (name : Text) (output : OutputHandle) : Type 0 where
  pub known : new.known name ≡ Unknown
  pub others : OthersKnown name old new
  pub here : new.at output ≡ None
  pub elsewhere : OthersAt output old new

-- an output handle is freed, by the name of the link under it
abbrev pub FreesLink : Option Text → Names → Names → OutputHandle → Type 0
FreesLink None old new output = SameNames old new
FreesLink (Some name) old new output = Freed old new name output

-- each name is as it was or unknown, and each output handle as it was or free
pub record MayFree (old new : Names) : Type 0 where
  pub known : (name : Text) → (new.known name ≡ old.known name) ⊎ (new.known name ≡ Unknown)
  pub at : (output : OutputHandle) → (new.at output ≡ old.at output) ⊎ (new.at output ≡ None)

-- how a name is known once the peer attached a link of it
abbrev pub state_attached : NameState → NameState
state_attached Waiting = Taken
state_attached state = state

-- a link that waited is attached; where none of the name waited, the names are as they were
pub record Attaches (old new : Names) (name : Text) : Type 0 where
  pub known : new.known name ≡ state_attached (old.known name)
  pub others : OthersKnown name old new
  pub at : (output : OutputHandle) → new.at output ≡ old.at output

-- a link of the peer's was opened
abbrev pub OpensLink : Names → Names → Text → Type 0
OpensLink old new name = (output : OutputHandle) × Placed old new name Taken output

-- an attach, by whether it may open its link at once
abbrev pub AttachLeaves : Bool → Names → Names → Text → Type 0
AttachLeaves false old new name = Attaches old new name
AttachLeaves true old new name = Attaches old new name ⊎ OpensLink old new name

-- an attach that opens no link leaves what any attach may
pub attaches-leaves : (opens : Bool) (old new : Names) (name : Text) → Attaches old new name
    → AttachLeaves opens old new name
attaches-leaves false old new name attaches = attaches
attaches-leaves true old new name attaches = inl attaches

-- an attach that opens its link leaves what an attach may that may open it
pub opens-leaves : (at_once opens : Bool) (old new : Names) (name : Text) → opens ≡ true
    → OpensLink old new name → AttachLeaves (at_once || opens) old new name
opens-leaves true opens old new name may link = inr link
opens-leaves false true old new name may link = inr link
opens-leaves false false old new name may link = absurd (cc may)

-- what any attach leaves is left by one that may open its link
pub leaves-at_once : (opens : Bool) (old new : Names) (name : Text)
    → AttachLeaves opens old new name → AttachLeaves true old new name
leaves-at_once false old new name attaches = inl attaches
leaves-at_once true old new name leaves = leaves

-- what an incoming frame leaves of the names, where it is taken; an attach may open its link where
-- the session accepts links at once, and where it attaches to a coordinator
abbrev pub FrameLeaves : Bool → Names → Names → Frame → Type 0
FrameLeaves at_once old new (frames.Attach attach) =
    AttachLeaves (at_once || is_coordinator_attach (frames.Attach attach)) old new attach.name
FrameLeaves at_once old new (frames.Detach detach) = MayFree old new
FrameLeaves at_once old new frame = SameNames old new

-- a refusal leaves all as it was; out of memory may come after the call was done
abbrev pub LeftBy : Type 0 → Type 0 → Result (List Frame) SessionInnerError → Type 0
LeftBy Done Same (Ok given) = Done
LeftBy Done Same (Err faults.NoMemory) = Done ⊎ Same
LeftBy Done Same (Err error) = Same

-- a refusal that leaves all
pub left-same : (Done Same : Type 0) (error : SessionInnerError) → Same
    → LeftBy Done Same (Err error)
left-same Done Same faults.NoMemory same = inr same
left-same Done Same faults.UnattachedHandle same = same
left-same Done Same faults.RemoteAttachingLinkNameNotFound same = same
left-same Done Same faults.HandleInUse same = same
left-same Done Same faults.IllegalState same = same
left-same Done Same (faults.ConnectionStopped reason) same = same
left-same Done Same faults.TransferFrameToSender same = same
left-same Done Same faults.RemoteEnded same = same
left-same Done Same (faults.RemoteEndedWithError cause) same = same
left-same Done Same faults.UnknownTxnId same = same

-- what any answer leaves is left where memory runs out to keep that answer
pub left-uncopied : (Done Same : Type 0) (result : Result (List Frame) SessionInnerError)
    → LeftBy Done Same result → LeftBy Done Same (Err faults.NoMemory)
left-uncopied Done Same (Ok given) left = inl left
left-uncopied Done Same (Err faults.NoMemory) left = left
left-uncopied Done Same (Err faults.UnattachedHandle) left = inr left
left-uncopied Done Same (Err faults.RemoteAttachingLinkNameNotFound) left = inr left
left-uncopied Done Same (Err faults.HandleInUse) left = inr left
left-uncopied Done Same (Err faults.IllegalState) left = inr left
left-uncopied Done Same (Err (faults.ConnectionStopped reason)) left = inr left
left-uncopied Done Same (Err faults.TransferFrameToSender) left = inr left
left-uncopied Done Same (Err faults.RemoteEnded) left = inr left
left-uncopied Done Same (Err (faults.RemoteEndedWithError cause)) left = inr left
left-uncopied Done Same (Err faults.UnknownTxnId) left = inr left

-- an Ok leaves what its fact says
pub left-map : (Before After Same : Type 0) (result : Result (List Frame) SessionInnerError)
    → (Before → After) → LeftBy Before Same result → LeftBy After Same result
left-map Before After Same (Ok given) f left = f left
left-map Before After Same (Err faults.NoMemory) f left =
    elim left [ inl before ↦ inl (f before) | inr same ↦ inr same ]
left-map Before After Same (Err error) f left = left
