-- What an engine does with a frame that comes.
use Rattle.std.specs.Prelude.{◌≡◌, Bool, false, not, Option, Result, Ok, Err, List}
use Rattle.amqp_txn_types.specs.declared.performatives.Begin.{Begin}
use Rattle.amqp_txn_types.specs.declared.performatives.Disposition.{Disposition}
use Rattle.amqp_txn_types.specs.declared.performatives.End.{End}
use Rattle.amqp_txn_types.specs.declared.performatives.Flow.{Flow}
use Rattle.amqp_txn_types.specs.declared.performatives.Frame.{Frame}
use Rattle.amqp_txn_types.specs.declared.small.IncomingChannel.{IncomingChannel}
use Rattle.amqp_txn_types.specs.declared.small.SessionState.{SessionState}
use Rattle.amqp_below_layer.specs.declared.answers.Answers.{Answers}
use Rattle.amqp_below_layer.specs.declared.inner_error.SessionInnerError.{SessionInnerError}
use Rattle.amqp_below_layer.specs.declared.take.TakeError.{TakeError}
use Rattle.amqp_below_layer.specs.OneFrame.{TakesFrame, TakesThrough}
use Rattle.amqp_below_layer.specs.Told.{Told}
use Rattle.amqp_below_sessions.specs.Names.{Names}
use Rattle.amqp_below_sessions.specs.Sessions.{Kept}
use Rattle.amqp_engine_events.specs.declared.turn.Running.TheVariants.{Continue}
use Rattle.amqp_engine_events.specs.declared.turn.SessionFrameBody.{SessionFrameBody}
use Rattle.amqp_engine_events.specs.declared.turn.SessionFrameBody.TheVariants as bodies
use Rattle.amqp_engine_events.specs.declared.turn.Turn.{Turn}
use Rattle.amqp_engine_events.specs.Begins.{BeginGiven}
use Rattle.amqp_engine_events.specs.States.{takes_end}
use Rattle.amqp_engine_events.specs.Turns.{quiet, sending}

-- a fact of a link's frame
abbrev pub OnLink : SessionFrameBody → (Frame → Type 0) → Type 0
OnLink (bodies.Link frame) Fact = Fact frame
OnLink _ Fact = Unit {0}

-- a fact of a begin
abbrev pub OnBegin : SessionFrameBody → (Begin → Type 0) → Type 0
OnBegin (bodies.Begin begin) Fact = Fact begin
OnBegin _ Fact = Unit {0}

-- a fact of an end
abbrev pub OnEnd : SessionFrameBody → (End → Type 0) → Type 0
OnEnd (bodies.End end) Fact = Fact end
OnEnd _ Fact = Unit {0}

-- the state takes no end
abbrev pub is_unexpected : SessionState → SessionFrameBody → Bool
is_unexpected state (bodies.End end) = not (takes_end state)
is_unexpected state _ = false

-- one frame went through the session
pub record Through {S : Type 0} (told : S → Told)
    (Incoming : S → S → Frame → Result (List Frame) SessionInnerError → Type 0)
    (Check : S → S → Disposition → Result Unit SessionInnerError → Type 0)
    (Window : S → S → Option Flow → Type 0)
    (old new : S) (frame : Frame) (answer : Result Answers TakeError) : Type 0 where
  pub takes : TakesFrame (told old) (told new) frame answer
  pub through : TakesThrough Incoming Check Window old new frame answer

-- a link's frame goes through the session, and what that gave back is sent
abbrev pub TakesLink : {S : Type 0} → (S → Told)
    → (S → S → Frame → Result (List Frame) SessionInnerError → Type 0)
    → (S → S → Disposition → Result Unit SessionInnerError → Type 0)
    → (S → S → Option Flow → Type 0)
    → S → S → Frame → Result Turn SessionInnerError → Type 0
TakesLink told Incoming Check Window old new frame (Ok turn) =
    (answers : Answers) × (turn ≡ sending answers)
    × Through told Incoming Check Window old new frame (Ok answers)
TakesLink told Incoming Check Window old new frame (Err fault) =
    (taken : Bool) × Through told Incoming Check Window old new frame
    (Err (record { taken = taken; error = fault }))

-- a begin is given to the session, and nothing is sent
abbrev pub TakesBegin : {S : Type 0} → (S → Told) → (S → Kept) → (S → Names)
    → (S → S → IncomingChannel → Begin → Result Unit SessionInnerError → Type 0)
    → S → S → IncomingChannel → Begin → Result Turn SessionInnerError → Type 0
TakesBegin told kept names Received old new channel begin (Ok turn) =
    (turn ≡ quiet Continue)
    × BeginGiven told kept names Received old new channel begin (Ok tt)
TakesBegin told kept names Received old new channel begin (Err fault) =
    BeginGiven told kept names Received old new channel begin (Err fault)
