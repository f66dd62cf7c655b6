-- What accepting the next session of a connection answers and leaves.
use Rattle.std.specs.Prelude.{◌≡◌, ◌⊎◌, is_some, Option, Some, None, Result, Ok, Err}
use Rattle.amqp_txn_types.specs.declared.performatives.Begin.{Begin}
use Rattle.amqp_txn_types.specs.declared.small.OutgoingChannel.{OutgoingChannel}
use Rattle.amqp_links.specs.declared.poll.Poll.{Poll}
use Rattle.amqp_links.specs.declared.poll.Poll.TheVariants as polls
use Rattle.amqp_below_sessions.specs.declared.session_errors.BeginError.{BeginError}
use Rattle.amqp_below_sessions.specs.declared.session_errors.BeginError.TheVariants as refusals
use Rattle.amqp_below_connections.specs.Connections.{Allocates, ConnectionTold, NextSession, begin_error, next_session}
use Rattle.amqp_below_connections.specs.declared.connection.AllocSessionError.{AllocSessionError}
use Rattle.amqp_below_connections.specs.declared.connection.IncomingSession.{IncomingSession}
use Rattle.amqp_accept_links.specs.declared.control.ControlLinkAcceptor.{ControlLinkAcceptor}
use Rattle.amqp_engine_events.specs.Begins.{StoppedEarly}
use Rattle.amqp_engine_builder.specs.declared.builder.Builder.{Builder}
use Rattle.amqp_resource_accepted.specs.declared.accepted.AcceptedSession.{AcceptedSession}
use Rattle.amqp_engine_builder.specs.Builders.{begin_built}
use Rattle.amqp_resource_accepted.specs.Accepted.{IsAccepted, begin_answered}

-- what is answered where a session is accepted
abbrev pub Answer : Type 0
Answer = Result (AcceptedSession × Begin) BeginError

-- a session that waited is accepted on the channel that the connection gave; where it gave none,
-- its refusal is the answer
abbrev pub AcceptsChannel : Option ControlLinkAcceptor → Begin → IncomingSession
    → Result OutgoingChannel AllocSessionError → Answer → Type 0
AcceptsChannel control begin begun (Ok channel) (Ok accepted) =
    IsAccepted control accepted.0 begin begun channel
    × (accepted.1 ≡ begin_answered begin begun)
AcceptsChannel control begin begun (Ok channel) (Err error) = ⊥
AcceptsChannel control begin begun (Err refused) answer = answer ≡ Err (begin_error refused)

-- the connection stopped, for the reason that it tells, or was closed; no more is asked of it
abbrev pub AnswersStop : {C : Type 0} → (C → ConnectionTold) → C → C → Answer → Type 0
AnswersStop told old new (Ok accepted) = ⊥
AnswersStop told old new (Err error) = StoppedEarly (told old).stop error × (new ≡ old)

-- by what a look for a session found: none yet, none any more, or one, for which the connection is
-- asked for a channel
abbrev pub AcceptsFound : {C : Type 0} → (C → ConnectionTold)
    → (C → C → Result OutgoingChannel AllocSessionError → Type 0) → C → C
    → Option ControlLinkAcceptor → Begin → Poll (Option IncomingSession) → Poll Answer → Type 0
AcceptsFound told gives old new control begin polls.Pending polls.Pending = new ≡ old
AcceptsFound told gives old new control begin (polls.Ready None) (polls.Ready answer) =
    AnswersStop told old new answer
AcceptsFound told gives old new control begin (polls.Ready (Some begun)) (polls.Ready answer) =
    (channel : Result OutgoingChannel AllocSessionError) × Allocates (told old) (told new) channel
    × gives old new channel × AcceptsChannel control begin begun channel answer
AcceptsFound told gives old new control begin _ _ = ⊥

-- the connection is looked at for the session that waits longest, and the answer is by what is
-- found
abbrev pub AcceptsNext : {C : Type 0} → (C → ConnectionTold)
    → (C → C → Poll (Option IncomingSession) → Type 0)
    → (C → C → Result OutgoingChannel AllocSessionError → Type 0) → C → C
    → Option ControlLinkAcceptor → Begin → Poll Answer → Type 0
AcceptsNext {C} told looks gives old new control begin result =
    let found = next_session (told old).waiting (is_some (told old).stop) in
    (looked : C) × NextSession (told old) (told looked) found × looks old looked found
    × AcceptsFound told gives looked new control begin found result

-- all memory for a session is taken before the connection is asked: where it runs out, the
-- connection is as it was
abbrev pub AcceptsOrNoMemory : {C : Type 0} → (C → ConnectionTold)
    → (C → C → Poll (Option IncomingSession) → Type 0)
    → (C → C → Result OutgoingChannel AllocSessionError → Type 0) → C → C → Builder
    → Poll Answer → Type 0
AcceptsOrNoMemory told looks gives old new builder result =
    AcceptsNext told looks gives old new builder.control_link_acceptor (begin_built builder) result
    ⊎ ((new ≡ old) × (result ≡ polls.Ready (Err refusals.NoMemory)))
