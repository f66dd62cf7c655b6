-- How a session ends. Part 2 of the standard, section 2.5.2 (ending a session).
use Rattle.std.specs.Prelude.{◌≡◌, ◌⊎◌, Bool, true, false, MatchBool, Option, None, Result, Ok, Err, is_some}
use Rattle.amqp_txn_types.specs.declared.delivery.Error.{Error}
use Rattle.amqp_txn_types.specs.declared.delivery.SessionStopReason.{SessionStopReason}
use Rattle.amqp_txn_types.specs.declared.performatives.End.{End}
use Rattle.amqp_txn_types.specs.declared.small.IncomingChannel.{IncomingChannel}
use Rattle.amqp_txn_types.specs.declared.small.SessionState.{SessionState}
use Rattle.amqp_txn_types.specs.declared.small.SessionState.TheVariants as states
use Rattle.amqp_below_layer.specs.declared.inner_error.SessionInnerError.{SessionInnerError}
use Rattle.amqp_below_layer.specs.declared.inner_error.SessionInnerError.TheVariants as faults
use Rattle.amqp_below_layer.specs.Told.{Told}
use Rattle.amqp_below_sessions.specs.Names.{Names}
use Rattle.amqp_below_sessions.specs.Sessions.{Kept}
use Rattle.amqp_below_sessions.specs.SessionStates.{end_received, end_sent}
use Rattle.amqp_below_sessions.specs.declared.stop_reason.StopReason.{StopReason}
use Rattle.amqp_below_sessions.specs.declared.stop_reason.StopReason.TheVariants as reasons
use Rattle.amqp_engine_events.specs.declared.turn.Running.{Running}
use Rattle.amqp_engine_events.specs.declared.turn.Running.TheVariants.{Stop}
use Rattle.amqp_engine_events.specs.declared.turn.Turn.{Turn}
use Rattle.amqp_engine_events.specs.Calls.{Moved, OrNoCopy, Then}
use Rattle.amqp_engine_events.specs.Reasons.{KeepsStop, copies_remote, local_stop, remote_stop, stop_of_outcome}
use Rattle.amqp_engine_events.specs.States.{owes_end, running_once_ended}
use Rattle.amqp_engine_events.specs.Turns.{Unasked, quiet, sending_end}

-- the session was asked for its end
abbrev pub EndAsked : {S : Type 0} → (S → Told) → (S → Kept) → (S → Names)
    → (S → S → Option Error → Result End SessionInnerError → Type 0)
    → S → S → Option Error → Result End SessionInnerError → Type 0
EndAsked told kept names Sent old new error answer =
    Moved told kept names (end_sent (is_some error) (told old).fixed.state) (Sent old new error)
    old new answer

-- the session's end is sent, and then it is so
abbrev pub SendsEnd : {S : Type 0} → (S → Told) → (S → Kept) → (S → Names)
    → (S → S → Option Error → Result End SessionInnerError → Type 0)
    → S → S → Option Error → Running → Result Turn SessionInnerError → Type 0
SendsEnd told kept names Sent old new error running (Ok turn) =
    (end : End) × (turn ≡ sending_end running end)
    × EndAsked told kept names Sent old new error (Ok end)
SendsEnd told kept names Sent old new error running (Err fault) =
    EndAsked told kept names Sent old new error (Err fault)

-- a session is told to end: its end is sent where it still owes one
abbrev pub EndsSession : {S : Type 0} → (S → Told) → (S → Kept) → (S → Names)
    → (S → S → Option Error → Result End SessionInnerError → Type 0)
    → S → S → Option Error → Result Turn SessionInnerError → Type 0
EndsSession told kept names Sent old new error result =
    MatchBool (owes_end (told old).fixed.state)
    (SendsEnd told kept names Sent old new error (running_once_ended (told old).fixed.state) result)
    (Unasked old new (Ok (quiet (running_once_ended (told old).fixed.state))) result)

-- a reason is kept, the first one, and then the session is told to end
abbrev pub KeepsAndEnds : {S : Type 0} → (S → Told) → (S → Kept) → (S → Names)
    → (S → S → StopReason → Type 0)
    → (S → S → Option Error → Result End SessionInnerError → Type 0)
    → S → S → Option Error → Result Turn SessionInnerError → Type 0
KeepsAndEnds {S} told kept names Stops Sent old new error result = (between : S)
    × KeepsStop told kept names Stops old between
    (reasons.Session (local_stop error (kept old).connection))
    × EndsSession told kept names Sent between new error result

-- a reason is kept, the first one, and the peer's end is answered with one
abbrev pub KeepsAndAnswers : {S : Type 0} → (S → Told) → (S → Kept) → (S → Names)
    → (S → S → StopReason → Type 0)
    → (S → S → Option Error → Result End SessionInnerError → Type 0)
    → S → S → SessionStopReason → Result Turn SessionInnerError → Type 0
KeepsAndAnswers {S} told kept names Stops Sent old new reason result = (between : S)
    × KeepsStop told kept names Stops old between (reasons.Session reason)
    × SendsEnd told kept names Sent between new None Stop result

-- the peer's end was given to the session
abbrev pub EndGiven : {S : Type 0} → (S → Told) → (S → Kept) → (S → Names)
    → (S → S → IncomingChannel → End → Result Unit SessionInnerError → Type 0)
    → S → IncomingChannel → End → S → Result Unit SessionInnerError → Type 0
EndGiven told kept names Received old channel end new answer =
    Moved told kept names (end_received (told old).fixed.state) (Received old new channel end)
    old new answer

-- the peer ends a session in which frames passed: its end is taken, a reason kept, and an end
-- without an error answered
abbrev pub PeerEnds : {S : Type 0} → (S → Told) → (S → Kept) → (S → Names)
    → (S → S → IncomingChannel → End → Result Unit SessionInnerError → Type 0)
    → (S → S → StopReason → Type 0)
    → (S → S → Option Error → Result End SessionInnerError → Type 0)
    → S → S → IncomingChannel → End → Result Turn SessionInnerError → Type 0
PeerEnds told kept names Received Stops Sent old new channel end result =
    OrNoCopy (copies_remote end.error (kept old).connection) old new
    (Then (EndGiven told kept names Received old channel end)
    (λ between answer. KeepsAndAnswers told kept names Stops Sent between new
    (remote_stop end.error (kept old).connection) answer) new result) result

-- the end that was awaited has come
abbrev pub PeerAnswersEnd : {S : Type 0} → (S → Told) → (S → Kept) → (S → Names)
    → (S → S → IncomingChannel → End → Result Unit SessionInnerError → Type 0)
    → S → S → IncomingChannel → End → Result Turn SessionInnerError → Type 0
PeerAnswersEnd told kept names Received old new channel end (Ok turn) =
    EndGiven told kept names Received old channel end new (Ok tt) × (turn ≡ quiet Stop)
PeerAnswersEnd told kept names Received old new channel end (Err fault) =
    EndGiven told kept names Received old channel end new (Err fault)

-- a fact for each way in which an end of the peer's may find a session
abbrev pub ByEndState : SessionState → Type 0 → Type 0 → Type 0 → Type 0
ByEndState states.Mapped FramesPass EndAwaited Illegal = FramesPass
ByEndState states.EndSent FramesPass EndAwaited Illegal = EndAwaited
ByEndState states.Discarding FramesPass EndAwaited Illegal = EndAwaited
ByEndState _ FramesPass EndAwaited Illegal = Illegal

-- an end of the peer's comes
abbrev pub TakesEnd : {S : Type 0} → (S → Told) → (S → Kept) → (S → Names)
    → (S → S → IncomingChannel → End → Result Unit SessionInnerError → Type 0)
    → (S → S → StopReason → Type 0)
    → (S → S → Option Error → Result End SessionInnerError → Type 0)
    → S → S → IncomingChannel → End → Result Turn SessionInnerError → Type 0
TakesEnd told kept names Received Stops Sent old new channel end result =
    ByEndState (told old).fixed.state
    (PeerEnds told kept names Received Stops Sent old new channel end result)
    (PeerAnswersEnd told kept names Received old new channel end result)
    (Unasked old new (Err faults.IllegalState) result)

-- what is answered for the outcome of a session: that the connection stopped is no fault of it
abbrev pub answer_of : Result Unit SessionInnerError → Result Unit SessionInnerError
answer_of (Err (faults.ConnectionStopped reason)) = Ok tt
answer_of outcome = outcome

-- the error of the outcome goes into the reason that is kept, where none is, and is copied
abbrev pub copies_outcome : Bool → Result Unit SessionInnerError → Bool
copies_outcome false (Err (faults.RemoteEndedWithError error)) = true
copies_outcome kept outcome = false

-- that is answered; a copy may run out of memory
abbrev pub AnswersOutcome : Bool → Result Unit SessionInnerError → Result Unit SessionInnerError
    → Type 0
AnswersOutcome kept outcome answer = (answer ≡ answer_of outcome)
    ⊎ ((copies_outcome kept outcome ≡ true) × (answer ≡ Err faults.NoMemory))

-- the reason that the outcome tells is kept, where none is; else the session isn't asked
abbrev pub Finishes : {S : Type 0} → (S → Told) → (S → Kept) → (S → Names)
    → (S → S → StopReason → Type 0) → S → S → Result Unit SessionInnerError → Type 0
Finishes told kept names Stops old new outcome = MatchBool (is_some (kept old).stop)
    (new ≡ old)
    (KeepsStop told kept names Stops old new (reasons.Session (stop_of_outcome outcome)))
