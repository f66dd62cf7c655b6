-- What an engine answers to an event.
use Rattle.std.specs.Prelude.{◌≡◌, Bool, true, false, Some, None, Result, [], ◌∷◌, IfErr}
use Rattle.amqp_txn_types.specs.declared.performatives.End.{End}
use Rattle.amqp_txn_types.specs.declared.performatives.Frame.{Frame}
use Rattle.amqp_below_layer.specs.declared.answers.Answers.{Answers}
use Rattle.amqp_below_layer.specs.declared.inner_error.SessionInnerError.{SessionInnerError}
use Rattle.amqp_below_layer.specs.declared.inner_error.SessionInnerError.TheVariants as faults
use Rattle.amqp_engine_events.specs.declared.controls.ControlReply.{ControlReply}
use Rattle.amqp_engine_events.specs.declared.controls.ControlReply.TheVariants as replies
use Rattle.amqp_engine_events.specs.declared.turn.Running.{Running}
use Rattle.amqp_engine_events.specs.declared.turn.Running.TheVariants.{Continue}
use Rattle.amqp_engine_events.specs.declared.turn.Turn.{Turn}

-- no frame
abbrev pub nothing_sent : Answers
nothing_sent = record { given = []; window = None }

-- a turn that sends nothing and replies nothing
abbrev pub quiet : Running → Turn
quiet running = record {
  running = running;
  sent = nothing_sent;
  ended = None;
  reply = replies.Nothing;
}

-- the session goes on, and these frames are sent
abbrev pub sending : Answers → Turn
sending answers = record {
  running = Continue;
  sent = answers;
  ended = None;
  reply = replies.Nothing;
}

-- the session goes on, and one frame is sent
abbrev pub sending_one : Frame → Turn
sending_one frame = sending (record { given = frame ∷ []; window = None })

-- an end is sent
abbrev pub sending_end : Running → End → Turn
sending_end running end = record {
  running = running;
  sent = nothing_sent;
  ended = Some end;
  reply = replies.Nothing;
}

-- the session goes on, and the control is replied to
abbrev pub replying : ControlReply → Turn
replying reply = record {
  running = Continue;
  sent = nothing_sent;
  ended = None;
  reply = reply;
}

-- the session isn't asked, and this is the answer
pub record Unasked {S T E : Type 0} (old new : S) (answer result : Result T E) : Type 0 where
  pub untouched : new ≡ old
  pub answered : result ≡ answer

-- the fault needs no cause: out of memory, and IllegalState where it is expected
abbrev pub is_free : Bool → SessionInnerError → Bool
is_free expected faults.NoMemory = true
is_free expected faults.IllegalState = expected
is_free expected _ = false

-- every other fault comes only where this holds
abbrev pub CausedBy : {T : Type 0} → Bool → Type 0 → Result T SessionInnerError → Type 0
CausedBy expected Cause result = IfErr result (λ fault. is_free expected fault ≡ false → Cause)
