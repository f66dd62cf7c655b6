-- What a listener keeps beside the session in it, and what its calls do to both.
use Rattle.std.specs.Prelude.{ℕ, ◌≡◌, ◌⊎◌, [], Option, Some, None, Result, Ok, Err, List, OnOk}
use Rattle.amqp_txn_types.specs.Counts.{counted, one_more}
use Rattle.amqp_txn_types.specs.declared.small.InputHandle.{InputHandle}
use Rattle.amqp_txn_types.specs.declared.small.OutputHandle.{OutputHandle}
use Rattle.amqp_txn_types.specs.declared.performatives.Attach.{Attach}
use Rattle.amqp_txn_types.specs.declared.performatives.LinkFlow.{LinkFlow}
use Rattle.amqp_txn_types.specs.declared.text.Text.{Text}
use Rattle.amqp_below_layer.specs.Told.{Checks, Told}
use Rattle.amqp_below_sessions.specs.Names.{Names}
use Rattle.amqp_below_sessions.specs.declared.relay.NameState.{NameState}
use Rattle.amqp_below_sessions.specs.declared.relay.NameState.TheVariants.{Unknown}
use Rattle.amqp_below_sessions.specs.declared.relay.Relay.{Relay}
use Rattle.amqp_below_sessions.specs.declared.session_errors.AllocLinkError.{AllocLinkError}
use Rattle.amqp_below_sessions.specs.declared.session_errors.AllocLinkError.TheVariants as refusals
use Rattle.amqp_below_sessions.specs.Queues.{Queue, with_last}
use Rattle.amqp_below_sessions.specs.Sessions.{Kept, with_queue}
use Rattle.amqp_accept_links.specs.declared.control.ControlLinkAcceptor.{ControlLinkAcceptor}
use Rattle.amqp_accept_listener.specs.declared.listener.ListenerSession.{ListenerSession}
use Rattle.amqp_accept_listener.specs.Held.{SameHeld, flows_for, replaying, with_flows}

-- the session in a listener
abbrev pub inner_of : {S : Type 0} → ListenerSession S → S
inner_of l = l.session

-- the attaches that wait at a listener, and whether no more are queued
abbrev pub queue_of : {S : Type 0} → ListenerSession S → Queue
queue_of l = l.queue

-- the flows that a listener holds for each handle, in the order in which they came
abbrev pub held_of : {S : Type 0} → ListenerSession S → InputHandle → List LinkFlow
held_of l = flows_for l.held

-- what a listener keeps: what the session in it keeps, with the listener's own queue
abbrev pub kept_with : {S : Type 0} → (S → Kept) → ListenerSession S → Kept
kept_with kept l = with_queue (kept (inner_of l)) (queue_of l)

-- the acceptor of a listener's control links
abbrev pub control_of : {S : Type 0} → ListenerSession S → ControlLinkAcceptor
control_of l = l.control

-- how many of its own calls a listener answered with an Err
abbrev pub own_of : {S : Type 0} → ListenerSession S → ℕ
own_of l = l.refusals

-- what a listener keeps beside its session and its count is as it was: queue, flows and acceptor
pub record Keeps {S : Type 0} (old new : ListenerSession S) : Type 0 where
  pub queue : queue_of new ≡ queue_of old
  pub held : SameHeld (held_of old) (held_of new)
  pub control : control_of new ≡ control_of old

-- a call that the session in a listener answers, by what that told and gave; an Err is counted
pub record Passes {S T E : Type 0} (Tells Gives : S → S → Type 0) (old new : ListenerSession S)
    (result : Result T E) : Type 0 where
  pub tells : Tells (inner_of old) (inner_of new)
  pub gave : Gives (inner_of old) (inner_of new)
  pub keeps : Keeps old new
  pub counts : own_of new ≡ counted result (own_of old)

-- the same of a call that refuses nothing
pub record PassesOn {S : Type 0} (Tells Gives : S → S → Type 0) (old new : ListenerSession S)
    : Type 0 where
  pub tells : Tells (inner_of old) (inner_of new)
  pub gave : Gives (inner_of old) (inner_of new)
  pub keeps : Keeps old new
  pub own : own_of new ≡ own_of old

-- a call that a listener refuses by itself, with nothing else changed but its count
pub record RefusedOnce {S : Type 0} (old new : ListenerSession S) : Type 0 where
  pub inner : inner_of new ≡ inner_of old
  pub keeps : Keeps old new
  pub counts : own_of new ≡ one_more (own_of old)

-- nothing but the queue of a listener changes
pub record ChangesQueue {S : Type 0} (old new : ListenerSession S) (queue : Queue) : Type 0 where
  pub inner : inner_of new ≡ inner_of old
  pub queue_is : queue_of new ≡ queue
  pub held : SameHeld (held_of old) (held_of new)
  pub control : control_of new ≡ control_of old
  pub own : own_of new ≡ own_of old

-- the attach that came last is taken out of a queue, where one waits
abbrev pub TakesNewest : Queue → Queue → Option Attach → Type 0
TakesNewest old new (Some attach) = old ≡ with_last new attach
TakesNewest old new None = (old.waiting ≡ []) × (new ≡ old)

-- what is held once an allocation was answered: nothing for the handle, where it was allocated
abbrev pub held_after : Result OutputHandle AllocLinkError → InputHandle
    → (InputHandle → List LinkFlow) → InputHandle → List LinkFlow
held_after (Ok output) input held = with_flows input [] held
held_after (Err error) input held = held

-- the session allocates the link, with the flows that are held for its handle after its relay's own
pub record Replays {S : Type 0} (told : S → Told)
    (gives : S → S → Text → Relay → InputHandle → Result OutputHandle AllocLinkError → Type 0)
    (old new : S) (held held_now : InputHandle → List LinkFlow) (name : Text) (relay : Relay)
    (input : InputHandle) (result : Result OutputHandle AllocLinkError) : Type 0 where
  pub tells : Checks (told old) (told new) result
  pub gave : gives old new name (replaying (held input) relay) input result
  pub held_is : SameHeld (held_after result input held) held_now

-- the session refuses the link, for which nothing was copied; what is held stays
pub record RefusesUncopied {S : Type 0} (told : S → Told)
    (gives : S → S → Text → Relay → InputHandle → Result OutputHandle AllocLinkError → Type 0)
    (old new : S) (held held_now : InputHandle → List LinkFlow) (name : Text) (relay : Relay)
    (input : InputHandle) (result : Result OutputHandle AllocLinkError) : Type 0 where
  pub tells : Checks (told old) (told new) result
  pub gave : gives old new name relay input result
  pub held_is : SameHeld held held_now
  pub refused : OnOk result ⊥

-- the session wasn't asked, what is held stays, and this fault is answered
pub record Unasked {S T E : Type 0} (old new : S) (held held_now : InputHandle → List LinkFlow)
    (fault : E) (result : Result T E) : Type 0 where
  pub inner : new ≡ old
  pub held_is : SameHeld held held_now
  pub result_is : result ≡ Err fault

-- an allocation of a link that the peer attached, through a listener, by how its name was known: of
-- an unknown name what is held is replayed, if there is room for the copies; a name that is known
-- is refused, and nothing is copied for it
abbrev pub AllocatesHeld : {S : Type 0} → (S → Told)
    → (S → S → Text → Relay → InputHandle → Result OutputHandle AllocLinkError → Type 0)
    → S → S → NameState → (InputHandle → List LinkFlow) → (InputHandle → List LinkFlow) → Text
    → Relay → InputHandle → Result OutputHandle AllocLinkError → Type 0
AllocatesHeld told gives old new Unknown held held_now name relay input result =
    Replays told gives old new held held_now name relay input result
    ⊎ Unasked old new held held_now refusals.NoMemory result
AllocatesHeld told gives old new state held held_now name relay input result =
    RefusesUncopied told gives old new held held_now name relay input result

-- such an allocation leaves the queue; an Err is counted
pub record Allocates {S : Type 0} (told : S → Told) (names : S → Names)
    (gives : S → S → Text → Relay → InputHandle → Result OutputHandle AllocLinkError → Type 0)
    (old new : ListenerSession S) (name : Text) (relay : Relay) (input : InputHandle)
    (result : Result OutputHandle AllocLinkError) : Type 0 where
  pub allocates :
      AllocatesHeld told gives (inner_of old) (inner_of new) ((names (inner_of old)).known name)
      (held_of old) (held_of new) name relay input result
  pub queue : queue_of new ≡ queue_of old
  pub control : control_of new ≡ control_of old
  pub counts : own_of new ≡ counted result (own_of old)
