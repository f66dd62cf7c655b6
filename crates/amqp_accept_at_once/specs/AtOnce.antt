-- What a listener keeps that accepts links at once, and what its calls do to that. Part 2 of the
-- standard, section 2.6.3 (establishing a link).
use Rattle.std.specs.Prelude.{ℕ, ◌≡◌, Bool, true, false, Option, None, Result, Ok, Err, List, IfErr}
use Rattle.amqp_txn_types.specs.Counts.{Rose, counted}
use Rattle.amqp_txn_types.specs.Frames.{attaches_coordinator}
use Rattle.amqp_txn_types.specs.declared.delivery.SessionStopReason.{SessionStopReason}
use Rattle.amqp_txn_types.specs.declared.performatives.Attach.{Attach}
use Rattle.amqp_txn_types.specs.declared.performatives.Frame.{Frame}
use Rattle.amqp_txn_types.specs.declared.performatives.Flow.{Flow}
use Rattle.amqp_txn_types.specs.declared.performatives.Frame.TheVariants as frames
use Rattle.amqp_txn_types.specs.declared.performatives.LinkFlow.{LinkFlow}
use Rattle.amqp_txn_types.specs.declared.small.InputHandle.{InputHandle}
use Rattle.amqp_txn_types.specs.declared.small.OutputHandle.{OutputHandle}
use Rattle.amqp_txn_types.specs.declared.text.Text.{Text}
use Rattle.amqp_below_layer.specs.declared.inner_error.SessionInnerError.{SessionInnerError}
use Rattle.amqp_below_layer.specs.declared.inner_error.SessionInnerError.TheVariants as faults
use Rattle.amqp_below_layer.specs.Faults.{is_no_memory}
use Rattle.amqp_below_layer.specs.Inner.{Took}
use Rattle.amqp_below_layer.specs.Told.{Steady, Takes, Told}
use Rattle.amqp_below_sessions.specs.Names.{Names, OpensLink, SameNames}
use Rattle.amqp_below_sessions.specs.Plain.{control_error}
use Rattle.amqp_below_sessions.specs.Sessions.{Kept, LeavesFrame}
use Rattle.amqp_below_sessions.specs.declared.relay.NameState.{NameState}
use Rattle.amqp_below_sessions.specs.declared.relay.NameState.TheVariants.{Waiting}
use Rattle.amqp_below_sessions.specs.declared.relay.Relay.{Relay}
use Rattle.amqp_below_sessions.specs.declared.session_errors.AllocLinkError.{AllocLinkError}
use Rattle.amqp_below_sessions.specs.Queues.{Queue}
use Rattle.amqp_below_sessions.specs.declared.attach_errors.ReceiverAttachError.{ReceiverAttachError}
use Rattle.amqp_below_sessions.specs.declared.attach_errors.ReceiverAttachError.TheVariants as receivers
use Rattle.amqp_below_sessions.specs.declared.attach_errors.SenderAttachError.{SenderAttachError}
use Rattle.amqp_below_sessions.specs.declared.attach_errors.SenderAttachError.TheVariants as senders
use Rattle.amqp_accept_links.specs.declared.dynamic.RejectDynamic.{RejectDynamic}
use Rattle.amqp_accept_links.specs.declared.endpoint.AcceptorAttachError.{AcceptorAttachError}
use Rattle.amqp_accept_links.specs.declared.endpoint.AcceptorAttachError.TheVariants as errors
use Rattle.amqp_accept_links.specs.declared.endpoint.LinkEndpoint.{LinkEndpoint}
use Rattle.amqp_accept_links.specs.declared.link.LinkAcceptor.{LinkAcceptor}
use Rattle.amqp_accept_links.specs.LinkAcceptors.{AcceptsLink}
use Rattle.amqp_accept_links.specs.OpenLinks.{OpensThrough}
use Rattle.amqp_accept_listener.specs.Listening.{ChangesQueue, queue_of}
use Rattle.amqp_accept_listener.specs.declared.listener.ListenerSession.{ListenerSession}
use Rattle.amqp_accept_at_once.specs.declared.accepting.AcceptingListener.{AcceptingListener}

-- ---- what it keeps

-- an acceptor that makes no nodes
abbrev pub Acceptor : Type 0
Acceptor = LinkAcceptor RejectDynamic RejectDynamic

-- the listener in an accepting listener
abbrev pub listener_of : {S : Type 0} → AcceptingListener S → ListenerSession S
listener_of a = a.listener

-- the acceptor of its links
abbrev pub acceptor_of : {S : Type 0} → AcceptingListener S → Acceptor
acceptor_of a = a.acceptor

-- how many of its own calls it answered with an Err
abbrev pub own_of : {S : Type 0} → AcceptingListener S → ℕ
own_of a = a.refusals

-- ---- calls that the listener answers

-- a call that the listener answers, by what that told and gave; an Err is counted
pub record Passes {S T E : Type 0} (Tells Gives : ListenerSession S → ListenerSession S → Type 0)
    (old new : AcceptingListener S) (result : Result T E) : Type 0 where
  pub tells : Tells (listener_of old) (listener_of new)
  pub gave : Gives (listener_of old) (listener_of new)
  pub acceptor : acceptor_of new ≡ acceptor_of old
  pub counts : own_of new ≡ counted result (own_of old)

-- the same of a call that refuses nothing
pub record PassesOn {S : Type 0} (Tells Gives : ListenerSession S → ListenerSession S → Type 0)
    (old new : AcceptingListener S) : Type 0 where
  pub tells : Tells (listener_of old) (listener_of new)
  pub gave : Gives (listener_of old) (listener_of new)
  pub acceptor : acceptor_of new ≡ acceptor_of old
  pub own : own_of new ≡ own_of old

-- a call of the listener that refuses nothing, and leaves what it tells
abbrev pub PassesSame : {S : Type 0} → (ListenerSession S → Told)
    → (ListenerSession S → ListenerSession S → Type 0) → AcceptingListener S → AcceptingListener S
    → Type 0
PassesSame told Gives old new = PassesOn (λ a b. told b ≡ told a) Gives old new

-- ---- an attach

-- why a session refuses an attach for which no local receiver was made
abbrev pub receiver_refusal : ReceiverAttachError → SessionInnerError
receiver_refusal (receivers.Alloc error) = control_error error
receiver_refusal (receivers.Session error) = error
receiver_refusal receivers.CoordinatorIsNotImplemented = faults.IllegalState
receiver_refusal receivers.NoMemory = faults.NoMemory

-- why it refuses one for which no local sender was made
abbrev pub sender_refusal : SenderAttachError → SessionInnerError
sender_refusal (senders.Alloc error) = control_error error
sender_refusal (senders.SessionStopped reason) = faults.IllegalState
sender_refusal (senders.Session error) = error
sender_refusal senders.NoMemory = faults.NoMemory

-- why it refuses an attach that its acceptor doesn't accept
abbrev pub attach_refusal : AcceptorAttachError → SessionInnerError
attach_refusal (errors.SessionStopped reason) = faults.IllegalState
attach_refusal (errors.LocalSender error) = sender_refusal error
attach_refusal (errors.LocalReceiver error) = receiver_refusal error

-- what an acceptor answers
abbrev pub Accepted : Type 0
Accepted = Result (LinkEndpoint × List Frame) AcceptorAttachError

-- the acceptor's frames, or why it doesn't accept; the link's end is dropped
abbrev pub attach_answer : Accepted → Result (List Frame) SessionInnerError
attach_answer (Ok accepted) = Ok accepted.1
attach_answer (Err error) = Err (attach_refusal error)

-- no node is made for a dynamic terminus
abbrev pub makes_none : {T : Type 0} → T → Option T → Type 0
makes_none terminus answer = answer ≡ None

-- an attach is accepted: the acceptor's frames, or why it doesn't accept
abbrev pub AcceptsAttach : (Accepted → Type 0) → Result (List Frame) SessionInnerError → Type 0
AcceptsAttach Accepts result =
    (accepted : Accepted) × Accepts accepted × (result ≡ attach_answer accepted)

-- a link that is accepted is placed under a name that was unknown; an Err leaves the names
abbrev pub AcceptsLeaves : Names → Names → Text → Result (List Frame) SessionInnerError → Type 0
AcceptsLeaves old new name (Ok given) = OpensLink old new name
AcceptsLeaves old new name (Err error) = SameNames old new

-- an Err comes only where the listener's count rose: but where memory runs out, where a stop reason
-- is kept, or where the target is a coordinator
abbrev pub AttachCause : Option SessionStopReason → Attach → Told → Told → SessionInnerError
    → Type 0
AttachCause stop attach old new error =
    is_no_memory error ≡ false → stop ≡ None → attaches_coordinator attach ≡ false
    → Rose old.refusals new.refusals

-- by what the listener answered: an attach that it queued is taken out of the queue, which is then
-- as before
abbrev pub TakesOut : {S : Type 0} → ListenerSession S → ListenerSession S → Queue → Attach
    → Result (List Frame) SessionInnerError → Result Attach SessionInnerError → Type 0
TakesOut heard new before attach (Ok given) result =
    ChangesQueue heard new before × (result ≡ Ok attach)
TakesOut heard new before attach (Err error) result = (new ≡ heard) × (result ≡ Err error)

-- an attach whose name doesn't wait: the listener queues it, and it is taken out of the queue
pub record TakesQueued {S : Type 0}
    (Took : ListenerSession S → ListenerSession S → Result (List Frame) SessionInnerError → Type 0)
    (old new : ListenerSession S) (attach : Attach) (result : Result Attach SessionInnerError)
    : Type 0 where
  pub heard : ListenerSession S
  pub answer : Result (List Frame) SessionInnerError
  pub took : Took old heard answer
  pub out : TakesOut heard new (queue_of old) attach answer result

-- an attach that is out of the queue is accepted; an Err of the listener is the answer
abbrev pub AcceptsQueued : {S : Type 0}
    → (Attach → ListenerSession S → ListenerSession S → Accepted → Type 0)
    → ListenerSession S → ListenerSession S → Result Attach SessionInnerError
    → Result (List Frame) SessionInnerError → Type 0
AcceptsQueued Accepts taken new (Ok attach) result =
    AcceptsAttach (Accepts attach taken new) result
AcceptsQueued Accepts taken new (Err error) result = (new ≡ taken) × (result ≡ Err error)

-- an attach, by how its name is known: one that waits is the listener's; any other is accepted at
-- once, where the listener queues it
abbrev pub HearsAttach : {S : Type 0}
    → (ListenerSession S → ListenerSession S → Result (List Frame) SessionInnerError → Type 0)
    → (Attach → ListenerSession S → ListenerSession S → Accepted → Type 0) → NameState
    → ListenerSession S → ListenerSession S → Attach → Result (List Frame) SessionInnerError
    → Type 0
HearsAttach Took Accepts Waiting old new attach result = Took old new result
HearsAttach {S} Took Accepts state old new attach result =
    (taken : ListenerSession S) × (queued : Result Attach SessionInnerError)
    × TakesQueued Took old taken attach queued × AcceptsQueued Accepts taken new queued result

-- an attach through a listener, whose link is opened at once where it is queued, and what that
-- leaves of what the listener keeps and knows
pub record OpensAtOnce {S : Type 0} (told : ListenerSession S → Told)
    (kept : ListenerSession S → Kept) (names : ListenerSession S → Names)
    (gives : ListenerSession S → ListenerSession S → Frame → Result (List Frame) SessionInnerError
    → Type 0)
    (Accepts : Attach → ListenerSession S → ListenerSession S → Accepted → Type 0)
    (old new : ListenerSession S) (attach : Attach)
    (result : Result (List Frame) SessionInnerError) : Type 0 where
  pub hears :
      HearsAttach (λ a b answer. Took told gives a b (frames.Attach attach) answer) Accepts
      ((names old).known attach.name) old new attach result
  pub leaves :
      LeavesFrame true (kept old) (kept new) (names old) (names new) (frames.Attach attach) result
  pub cause : IfErr result (AttachCause (kept old).stop attach (told old) (told new))
  -- whatever is answered, the queue is as it was
  pub queue : queue_of new ≡ queue_of old

-- the acceptor's answer to an attach, over a listener that opens links by these relations
abbrev pub AcceptsOver : {S : Type 0} → (ListenerSession S → Kept)
    → (ListenerSession S → ListenerSession S → Text → Relay → InputHandle
    → Result OutputHandle AllocLinkError → Type 0)
    → (ListenerSession S → ListenerSession S → LinkFlow → Result Flow SessionInnerError → Type 0)
    → (ListenerSession S → ListenerSession S → OutputHandle → Bool → Type 0) → Acceptor
    → Attach → ListenerSession S → ListenerSession S → Accepted → Type 0
AcceptsOver kept allocates flows frees acceptor attach old new accepted =
    AcceptsLink makes_none makes_none acceptor (kept old).stop attach
    (OpensThrough allocates flows frees) old new accepted

-- ---- an incoming frame call

-- a frame by its kind: an attach opens its link at once, and all else is the listener's
abbrev pub HearsFrame : {S : Type 0} → (ListenerSession S → Told) → (ListenerSession S → Kept)
    → (ListenerSession S → Names)
    → (ListenerSession S → ListenerSession S → Frame → Result (List Frame) SessionInnerError
    → Type 0)
    → (Acceptor → Attach → ListenerSession S → ListenerSession S → Accepted → Type 0)
    → AcceptingListener S → AcceptingListener S → Frame → Result (List Frame) SessionInnerError
    → Type 0
HearsFrame told kept names gives Accepts old new (frames.Attach attach) result =
    Passes (λ a b. Steady (told a) (told b))
    (λ a b. OpensAtOnce told kept names gives (Accepts (acceptor_of old)) a b attach result) old
    new result
HearsFrame told kept names gives Accepts old new frame result =
    Passes (λ a b. Takes (told a) (told b) frame result) (λ a b. gives a b frame result) old new
    result
