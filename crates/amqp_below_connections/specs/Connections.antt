-- What the end of a connection tells, and what its calls do to that.
use Rattle.std.specs.Prelude.{ℕ, ◌≡◌, ◌≤◌, Bool, true, false, is_some, Option, Some, None, Result, List, [], ◌∷◌, drop, OnErr}
use Rattle.amqp_txn_types.specs.Counts.{Rose}
use Rattle.amqp_txn_types.specs.declared.delivery.ConnectionStopReason.{ConnectionStopReason}
use Rattle.amqp_txn_types.specs.declared.small.OutgoingChannel.{OutgoingChannel}
use Rattle.amqp_links.specs.declared.poll.Poll.{Poll}
use Rattle.amqp_links.specs.declared.poll.Poll.TheVariants as polls
use Rattle.amqp_below_sessions.specs.declared.session_errors.BeginError.{BeginError}
use Rattle.amqp_below_sessions.specs.declared.session_errors.BeginError.TheVariants as begins
use Rattle.amqp_below_connections.specs.declared.connection.IncomingSession.{IncomingSession}
use Rattle.amqp_below_connections.specs.declared.connection.AllocSessionError.{AllocSessionError}
use Rattle.amqp_below_connections.specs.declared.connection.AllocSessionError.TheVariants as refusals

-- what the end of a connection tells: the sessions that wait, in the order in which they came, why
-- it stopped, and how often it failed
pub record ConnectionTold : Type 0 where
  pub waiting : List IncomingSession
  pub stop : Option ConnectionStopReason
  pub faults : ℕ

-- a look where no session waits, by whether the connection stopped
abbrev pub none_waits : Bool → Poll (Option IncomingSession)
none_waits true = polls.Ready None
none_waits false = polls.Pending

-- a look for the session that waits longest, by whether the connection stopped
abbrev pub next_session : List IncomingSession → Bool → Poll (Option IncomingSession)
next_session [] stopped = none_waits stopped
next_session (session ∷ rest) stopped = polls.Ready (Some session)

-- the session that waits longest is taken
pub record NextSession (old new : ConnectionTold) (result : Poll (Option IncomingSession))
    : Type 0 where
  pub given : result ≡ next_session old.waiting (is_some old.stop)
  pub rest : new.waiting ≡ drop 1 old.waiting
  pub stop : new.stop ≡ old.stop
  pub later : old.faults ≤ new.faults

-- a channel is given
pub record Allocates (old new : ConnectionTold) (result : Result OutgoingChannel AllocSessionError)
    : Type 0 where
  pub waiting : new.waiting ≡ old.waiting
  pub stop : new.stop ≡ old.stop
  pub later : old.faults ≤ new.faults
  pub cause : OnErr result (Rose old.faults new.faults)

-- why a session doesn't begin, where its connection gives it no channel
abbrev pub begin_error : AllocSessionError → BeginError
begin_error refusals.ChannelMaxReached = begins.LocalChannelMaxReached
begin_error (refusals.ConnectionStopped reason) = begins.ConnectionStopped reason
begin_error refusals.NoMemory = begins.NoMemory
