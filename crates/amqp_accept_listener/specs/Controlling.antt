-- How a control link is opened through a listener. Part 4 of the standard, section 4.2 (declaring a
-- transaction).
use Rattle.std.specs.Prelude.{◌≡◌, ◌⊎◌, Bool, false, IfErr, Result, Ok, Err, List}
use Rattle.std.specs.Bool.{OnFalse, OnTrue}
use Rattle.amqp_txn_types.specs.Counts.{Rose, counted}
use Rattle.amqp_txn_types.specs.Frames.{attaches_coordinator}
use Rattle.amqp_txn_types.specs.declared.small.InputHandle.{InputHandle}
use Rattle.amqp_txn_types.specs.declared.small.OutputHandle.{OutputHandle}
use Rattle.amqp_txn_types.specs.declared.performatives.Attach.{Attach}
use Rattle.amqp_txn_types.specs.declared.performatives.Flow.{Flow}
use Rattle.amqp_txn_types.specs.declared.performatives.Frame.{Frame}
use Rattle.amqp_txn_types.specs.declared.performatives.LinkFlow.{LinkFlow}
use Rattle.amqp_txn_types.specs.declared.text.Text.{Text}
use Rattle.amqp_below_layer.specs.declared.inner_error.SessionInnerError.{SessionInnerError}
use Rattle.amqp_below_layer.specs.declared.inner_error.SessionInnerError.TheVariants as faults
use Rattle.amqp_below_layer.specs.Faults.{is_no_memory}
use Rattle.amqp_below_layer.specs.Told.{Checks, Steady, Told}
use Rattle.amqp_below_sessions.specs.declared.relay.Relay.{Relay}
use Rattle.amqp_below_sessions.specs.declared.session_errors.AllocLinkError.{AllocLinkError}
use Rattle.amqp_below_sessions.specs.Names.{Names}
use Rattle.amqp_below_sessions.specs.Plain.{control_error}
use Rattle.amqp_below_sessions.specs.Sessions.{Kept, LeavesOpening}
use Rattle.amqp_accept_links.specs.declared.open_link.Opening.{Opening}
use Rattle.amqp_accept_links.specs.declared.open_link.OpenError.{OpenError}
use Rattle.amqp_accept_links.specs.declared.open_link.OpenError.TheVariants as errors
use Rattle.amqp_accept_links.specs.Receivers.{control_opening}
use Rattle.amqp_accept_links.specs.Replies.{SendsReply}
use Rattle.amqp_accept_listener.specs.declared.listener.ListenerSession.{ListenerSession}
use Rattle.amqp_accept_listener.specs.Listening.{AllocatesHeld, Unasked, control_of, held_of, inner_of, own_of, queue_of}

-- why a control link isn't opened: that it isn't allocated, or the session's own refusal of its
-- flow
abbrev pub control_refusal : OpenError → SessionInnerError
control_refusal (errors.Alloc error) = control_error error
control_refusal (errors.Session error) = error

-- the frames of a control link that was opened, or why it wasn't
abbrev pub control_answer : Result (OutputHandle × List Frame) OpenError
    → Result (List Frame) SessionInnerError
control_answer (Ok opened) = Ok opened.1
control_answer (Err error) = Err (control_refusal error)

-- a refusal but where memory runs out comes only where the session's count rose
abbrev pub CausedBelow : SessionInnerError → Told → Told → Type 0
CausedBelow error old new = is_no_memory error ≡ false → Rose old.refusals new.refusals

-- the reply is sent by the session, which tells so
pub record Replies {S : Type 0} (told : S → Told)
    (flows : S → S → LinkFlow → Result Flow SessionInnerError → Type 0)
    (frees : S → S → OutputHandle → Bool → Type 0) (old new : S) (opening : Opening)
    (output : OutputHandle) (result : Result (List Frame) SessionInnerError) : Type 0 where
  pub tells : Checks (told old) (told new) result
  pub sends : SendsReply flows frees opening.reply.credit old new opening.reply.attach output result

-- a link is opened: the session allocates it, with what is held for its handle, and then sends its
-- reply
abbrev pub OpensHeld : {S : Type 0} → (S → Told) → (S → Names)
    → (S → S → Text → Relay → InputHandle → Result OutputHandle AllocLinkError → Type 0)
    → (S → S → LinkFlow → Result Flow SessionInnerError → Type 0)
    → (S → S → OutputHandle → Bool → Type 0) → S → S → (InputHandle → List LinkFlow)
    → (InputHandle → List LinkFlow) → Opening → Result (OutputHandle × List Frame) OpenError
    → Type 0
OpensHeld {S} told names allocates flows frees old new held held_now opening (Ok opened) =
    (allocated : S)
    × AllocatesHeld told allocates old allocated ((names old).known opening.name) held held_now
    opening.name opening.relay opening.input (Ok opened.0)
    × Replies told flows frees allocated new opening opened.0 (Ok opened.1)
OpensHeld told names allocates flows frees old new held held_now opening
    (Err (errors.Alloc error)) =
    AllocatesHeld told allocates old new ((names old).known opening.name) held held_now
    opening.name opening.relay opening.input (Err error)
OpensHeld {S} told names allocates flows frees old new held held_now opening
    (Err (errors.Session error)) =
    (allocated : S) × (output : OutputHandle)
    × AllocatesHeld told allocates old allocated ((names old).known opening.name) held held_now
    opening.name opening.relay opening.input (Ok output)
    × Replies told flows frees allocated new opening output (Err error)

-- a control link is made ready by the acceptor and opened, and answered by that; or there was no
-- room to make it ready
abbrev pub OpensControl : {S : Type 0} → (S → Told) → (S → Names)
    → (S → S → Text → Relay → InputHandle → Result OutputHandle AllocLinkError → Type 0)
    → (S → S → LinkFlow → Result Flow SessionInnerError → Type 0)
    → (S → S → OutputHandle → Bool → Type 0) → S → S → (InputHandle → List LinkFlow)
    → (InputHandle → List LinkFlow) → Opening → Result (List Frame) SessionInnerError → Type 0
OpensControl told names allocates flows frees old new held held_now opening result =
    ((opened : Result (OutputHandle × List Frame) OpenError)
    × OpensHeld told names allocates flows frees old new held held_now opening opened
    × (result ≡ control_answer opened))
    ⊎ Unasked old new held held_now faults.NoMemory result

-- the attach of a control link through a listener: one whose target is no coordinator is refused;
-- an Err is counted
pub record HearsControl {S : Type 0} (told : S → Told) (kept : S → Kept) (names : S → Names)
    (allocates : S → S → Text → Relay → InputHandle → Result OutputHandle AllocLinkError → Type 0)
    (flows : S → S → LinkFlow → Result Flow SessionInnerError → Type 0)
    (frees : S → S → OutputHandle → Bool → Type 0) (old new : ListenerSession S) (attach : Attach)
    (result : Result (List Frame) SessionInnerError) : Type 0 where
  pub opens :
      OnTrue (attaches_coordinator attach)
      (OpensControl told names allocates flows frees (inner_of old) (inner_of new) (held_of old)
      (held_of new) (control_opening (control_of old) attach) result)
  pub refuses :
      OnFalse (attaches_coordinator attach)
      (Unasked (inner_of old) (inner_of new) (held_of old) (held_of new) faults.IllegalState result)
  pub steady : Steady (told (inner_of old)) (told (inner_of new))
  pub cause :
      OnTrue (attaches_coordinator attach)
      (IfErr result (λ error. CausedBelow error (told (inner_of old)) (told (inner_of new))))
  pub leaves :
      LeavesOpening (kept (inner_of old)) (kept (inner_of new)) (names (inner_of old))
      (names (inner_of new)) attach result
  pub queue : queue_of new ≡ queue_of old
  pub control : control_of new ≡ control_of old
  pub counts : own_of new ≡ counted result (own_of old)
