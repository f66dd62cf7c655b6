-- What a listener does with the frames that come.
use Rattle.std.specs.Prelude.{◌≡◌, ◌⊎◌, Bool, true, false, if◌then◌else◌, Result, Ok, Err, List, []}
use Rattle.amqp_txn_types.specs.Counts.{counted}
use Rattle.amqp_txn_types.specs.declared.small.InputHandle.{InputHandle}
use Rattle.amqp_txn_types.specs.declared.performatives.Attach.{Attach}
use Rattle.amqp_txn_types.specs.declared.performatives.Flow.{Flow}
use Rattle.amqp_txn_types.specs.declared.performatives.Frame.{Frame}
use Rattle.amqp_txn_types.specs.declared.performatives.Frame.TheVariants as frames
use Rattle.amqp_txn_types.specs.declared.performatives.LinkFlow.{LinkFlow}
use Rattle.amqp_below_layer.specs.declared.inner_error.SessionInnerError.{SessionInnerError}
use Rattle.amqp_below_layer.specs.declared.inner_error.SessionInnerError.TheVariants as faults
use Rattle.amqp_below_layer.specs.Faults.{is_unattached}
use Rattle.amqp_below_layer.specs.Inner.{Took}
use Rattle.amqp_below_layer.specs.Told.{Told}
use Rattle.amqp_below_sessions.specs.Names.{Names}
use Rattle.amqp_below_sessions.specs.declared.relay.NameState.{NameState}
use Rattle.amqp_below_sessions.specs.declared.relay.NameState.TheVariants.{Waiting, Taken}
use Rattle.amqp_below_sessions.specs.Queues.{Queue, with_last}
use Rattle.amqp_accept_listener.specs.declared.listener.ListenerSession.{ListenerSession}
use Rattle.amqp_accept_listener.specs.Held.{SameHeld, link_flow_in, with_held}
use Rattle.amqp_accept_listener.specs.Listening.{Keeps, Unasked, control_of, held_of, inner_of, own_of, queue_of}

-- why an attach isn't queued at a closed queue, by how its name is known
abbrev pub unqueued_fault : NameState → SessionInnerError
unqueued_fault Taken = faults.HandleInUse
unqueued_fault _ = faults.UnattachedHandle

-- why an attach isn't queued: the queue is closed, else where memory runs out
abbrev pub why_unqueued : Bool → NameState → SessionInnerError
why_unqueued true state = unqueued_fault state
why_unqueued false state = faults.NoMemory

-- an attach is queued where the queue is open, with no frames given back
abbrev pub Queues :
    NameState → Queue → Queue → Attach → Result (List Frame) SessionInnerError → Type 0
Queues state before after attach (Ok given) =
    (before.closed ≡ false) × (given ≡ []) × (after ≡ with_last before attach)
Queues state before after attach (Err error) =
    (error ≡ why_unqueued before.closed state) × (after ≡ before)

-- an attach whose name waits goes to the session, which gives its answer; any other is queued
abbrev pub HearsAttach : {S : Type 0} → (Result (List Frame) SessionInnerError → Type 0)
    → NameState
    → S → S → Queue → Queue → Attach → Result (List Frame) SessionInnerError → Type 0
HearsAttach Inner Waiting old new before after attach result = Inner result × (after ≡ before)
HearsAttach Inner state old new before after attach result =
    (new ≡ old) × Queues state before after attach result

-- the answer is that a handle isn't attached
abbrev pub lacks_handle : Result (List Frame) SessionInnerError → Bool
lacks_handle (Ok given) = false
lacks_handle (Err error) = is_unattached error

-- what a listener answers for its session's answer: that a handle isn't attached is no refusal
abbrev pub let_pass :
    Result (List Frame) SessionInnerError → Result (List Frame) SessionInnerError
let_pass answer = if lacks_handle answer then Ok [] else answer

-- what is held for a flow: it is held where the session answers that its handle isn't attached
abbrev pub held_for : Result (List Frame) SessionInnerError → Flow
    → (InputHandle → List LinkFlow) → InputHandle → List LinkFlow
held_for answer flow held =
    if lacks_handle answer then with_held (link_flow_in flow) held else held

-- the session answers a flow
pub record AnswersFlow (Inner : Result (List Frame) SessionInnerError → Type 0)
    (held held_now : InputHandle → List LinkFlow) (flow : Flow)
    (answer result : Result (List Frame) SessionInnerError) : Type 0 where
  pub inner : Inner answer
  pub result_is : result ≡ let_pass answer
  pub held_is : SameHeld (held_for answer flow held) held_now

-- a flow goes to the session, once there is room to hold it
abbrev pub HearsFlow : {S : Type 0} → (Result (List Frame) SessionInnerError → Type 0) → S → S
    → (InputHandle → List LinkFlow) → (InputHandle → List LinkFlow) → Flow
    → Result (List Frame) SessionInnerError → Type 0
HearsFlow Inner old new held held_now flow result =
    ((answer : Result (List Frame) SessionInnerError)
    × AnswersFlow Inner held held_now flow answer result)
    ⊎ Unasked old new held held_now faults.NoMemory result

-- a transfer goes to the session, and is dropped where that answers that its handle isn't attached
abbrev pub HearsTransfer : (Result (List Frame) SessionInnerError → Type 0)
    → Result (List Frame) SessionInnerError → Type 0
HearsTransfer Inner result =
    (answer : Result (List Frame) SessionInnerError)
    × Inner answer × (result ≡ let_pass answer)

-- a frame by its kind: what the session was asked, and what was queued or held
abbrev pub HearsKind : {S : Type 0} → (Frame → Result (List Frame) SessionInnerError → Type 0)
    → Names
    → ListenerSession S → ListenerSession S → Frame → Result (List Frame) SessionInnerError → Type 0
HearsKind Inner names old new (frames.Attach attach) result =
    HearsAttach (Inner (frames.Attach attach)) (names.known attach.name) (inner_of old)
    (inner_of new) (queue_of old) (queue_of new) attach result
    × SameHeld (held_of old) (held_of new)
HearsKind Inner names old new (frames.Flow flow) result =
    HearsFlow (Inner (frames.Flow flow)) (inner_of old) (inner_of new) (held_of old)
    (held_of new) flow result
    × (queue_of new ≡ queue_of old)
HearsKind Inner names old new (frames.Transfer transfer payload) result =
    HearsTransfer (Inner (frames.Transfer transfer payload)) result × Keeps old new
HearsKind Inner names old new other result = Inner other result × Keeps old new

-- an incoming frame call of a listener; an Err is counted
pub record HearsFrame {S : Type 0} (told : S → Told)
    (gives : S → S → Frame → Result (List Frame) SessionInnerError → Type 0) (names : S → Names)
    (old new : ListenerSession S) (frame : Frame) (result : Result (List Frame) SessionInnerError)
    : Type 0 where
  pub hears :
      HearsKind (Took told gives (inner_of old) (inner_of new)) (names (inner_of old)) old new frame
      result
  pub control : control_of new ≡ control_of old
  pub counts : own_of new ≡ counted result (own_of old)
