-- How a session begins. Part 2 of the standard, section 2.5.1 (establishing a session).
use Rattle.std.specs.Prelude.{◌≡◌, ◌⊎◌, true, Option, Some, None, Result, Ok, Err, is_some}
use Rattle.amqp_txn_types.specs.declared.delivery.ConnectionStopReason.{ConnectionStopReason}
use Rattle.amqp_txn_types.specs.declared.delivery.Error.{Error}
use Rattle.amqp_txn_types.specs.declared.performatives.Begin.{Begin}
use Rattle.amqp_txn_types.specs.declared.small.IncomingChannel.{IncomingChannel}
use Rattle.amqp_below_layer.specs.declared.inner_error.SessionInnerError.{SessionInnerError}
use Rattle.amqp_below_layer.specs.declared.inner_error.SessionInnerError.TheVariants as faults
use Rattle.amqp_below_layer.specs.Told.{Told}
use Rattle.amqp_below_sessions.specs.declared.session_errors.BeginError.{BeginError}
use Rattle.amqp_below_sessions.specs.declared.session_errors.BeginError.TheVariants as refusals
use Rattle.amqp_below_sessions.specs.Names.{Names}
use Rattle.amqp_below_sessions.specs.Sessions.{Kept}
use Rattle.amqp_below_sessions.specs.SessionStates.{begin_received, begin_sent}
use Rattle.amqp_engine_events.specs.declared.turn.SessionFrameBody.{SessionFrameBody}
use Rattle.amqp_engine_events.specs.declared.turn.SessionFrameBody.TheVariants as bodies
use Rattle.amqp_engine_events.specs.Calls.{Moved}
use Rattle.amqp_engine_events.specs.Reasons.{reason_or_closed}

-- the session was asked for its begin
abbrev pub BeginAsked : {S : Type 0} → (S → Told) → (S → Kept) → (S → Names)
    → (S → S → Result Begin BeginError → Type 0) → S → S → Result Begin BeginError → Type 0
BeginAsked told kept names Sent old new answer =
    Moved told kept names (begin_sent (told old).fixed.state) (Sent old new) old new answer

-- the session's begin is sent; where it refuses, it comes back with its refusal
abbrev pub SendsBegin : {S : Type 0} → (S → Told) → (S → Kept) → (S → Names)
    → (S → S → Result Begin BeginError → Type 0) → S → Result (S × Begin) (S × BeginError) → Type 0
SendsBegin told kept names Sent old (Ok begun) =
    BeginAsked told kept names Sent old begun.0 (Ok begun.1)
SendsBegin told kept names Sent old (Err refused) =
    BeginAsked told kept names Sent old refused.0 (Err refused.1)

-- a begin of the peer's was given to the session
abbrev pub BeginGiven : {S : Type 0} → (S → Told) → (S → Kept) → (S → Names)
    → (S → S → IncomingChannel → Begin → Result Unit SessionInnerError → Type 0)
    → S → S → IncomingChannel → Begin → Result Unit SessionInnerError → Type 0
BeginGiven told kept names Received old new channel begin answer =
    Moved told kept names (begin_received (told old).fixed.state) (Received old new channel begin)
    old new answer

-- a refusal of the peer's begin, by its name where there is one of it
abbrev pub begin_refusal : SessionInnerError → BeginError
begin_refusal (faults.ConnectionStopped reason) = refusals.ConnectionStopped reason
begin_refusal faults.RemoteEnded = refusals.RemoteEnded
begin_refusal (faults.RemoteEndedWithError error) = refusals.RemoteEndedWithError error
begin_refusal faults.NoMemory = refusals.NoMemory
begin_refusal _ = refusals.IllegalState

-- the peer ended the session before it began
abbrev pub ended_early : Option Error → BeginError
ended_early None = refusals.RemoteEnded
ended_early (Some error) = refusals.RemoteEndedWithError error

-- the peer's begin makes the session ready, where the session takes it
abbrev pub TakesPeersBegin : {S : Type 0} → (S → Told) → (S → Kept) → (S → Names)
    → (S → S → IncomingChannel → Begin → Result Unit SessionInnerError → Type 0)
    → S → IncomingChannel → Begin → Result S (S × BeginError) → Type 0
TakesPeersBegin told kept names Received old channel begin (Ok new) =
    BeginGiven told kept names Received old new channel begin (Ok tt)
TakesPeersBegin told kept names Received old channel begin (Err refused) =
    (fault : SessionInnerError) × (refused.1 ≡ begin_refusal fault)
    × BeginGiven told kept names Received old refused.0 channel begin (Err fault)

-- what comes while the peer's begin is awaited: its begin, or its end; anything else is illegal
abbrev pub FirstFrame : {S : Type 0} → (S → Told) → (S → Kept) → (S → Names)
    → (S → S → IncomingChannel → Begin → Result Unit SessionInnerError → Type 0)
    → S → IncomingChannel → SessionFrameBody → Result S (S × BeginError) → Type 0
FirstFrame told kept names Received old channel (bodies.Begin begin) result =
    TakesPeersBegin told kept names Received old channel begin result
FirstFrame told kept names Received old channel (bodies.Link frame) result =
    result ≡ Err (old, refusals.IllegalState)
FirstFrame told kept names Received old channel (bodies.End end) result =
    result ≡ Err (old, ended_early end.error)

-- the connection stopped, for the reason that is kept, whose copy may run out of memory
abbrev pub StoppedEarly : Option ConnectionStopReason → BeginError → Type 0
StoppedEarly reason error = (error ≡ refusals.ConnectionStopped (reason_or_closed reason))
    ⊎ ((is_some reason ≡ true) × (error ≡ refusals.NoMemory))
