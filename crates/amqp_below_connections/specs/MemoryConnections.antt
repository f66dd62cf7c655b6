-- The end of a connection in memory.
use Rattle.std.specs.Prelude.{ℕ, ◌≡◌, ◌+◌, ◌<◌, ◌≤◌, Option, Some, None, Result, Ok, Err, List, [], ◌∷◌, ◌++◌, drop}
use Rattle.amqp_txn_types.specs.Counts.{one_more}
use Rattle.amqp_txn_types.specs.declared.delivery.ConnectionStopReason.{ConnectionStopReason}
use Rattle.amqp_txn_types.specs.declared.small.OutgoingChannel.{OutgoingChannel}
use Rattle.amqp_below_connections.specs.Connections.{ConnectionTold}
use Rattle.amqp_below_connections.specs.declared.connection.IncomingSession.{IncomingSession}
use Rattle.amqp_below_connections.specs.declared.connection.AllocSessionError.{AllocSessionError}
use Rattle.amqp_below_connections.specs.declared.connection.AllocSessionError.TheVariants as refusals

-- the sessions that wait, in the order in which they came; the channel that is given next, and the
-- greatest one; why it stopped, and how often it failed
pub record InMemory : Type 0 where
  pub waiting : List IncomingSession
  pub next : ℕ
  pub channel_max : ℕ
  pub stop : Option ConnectionStopReason
  pub faults : ℕ

-- what it tells
abbrev pub told_of : InMemory → ConnectionTold
told_of connection = record {
  waiting = connection.waiting;
  stop = connection.stop;
  faults = connection.faults;
}

-- one more session waits
abbrev pub with_session : InMemory → IncomingSession → InMemory
with_session connection session =
    record connection { waiting = connection.waiting ++ session ∷ [] }

-- it stopped
abbrev pub with_stop : InMemory → ConnectionStopReason → InMemory
with_stop connection reason = record connection { stop = Some reason }

-- the session that waits longest, if one waits, was taken
abbrev pub session_taken : InMemory → InMemory
session_taken connection = record connection { waiting = drop 1 connection.waiting }

-- it failed once more
abbrev pub failed_once : InMemory → InMemory
failed_once connection = record connection { faults = one_more connection.faults }

-- the fault of a connection that stopped; its reason may run out of memory for its copy
abbrev pub IsStopFault : ConnectionStopReason → AllocSessionError → Type 0
IsStopFault reason refusals.ChannelMaxReached = ⊥
IsStopFault reason (refusals.ConnectionStopped told) = told ≡ reason
IsStopFault reason refusals.NoMemory = Unit {0}

-- a channel was given: the next one, where one was left
pub record GivesNext (old new : InMemory) (channel : OutgoingChannel) : Type 0 where
  pub left : old.next ≤ old.channel_max
  pub channel_is : channel.0 ≡ old.next
  pub given : new ≡ record old { next = old.next + 1 }

-- no channel was left
pub record NoneLeft (old : InMemory) (error : AllocSessionError) : Type 0 where
  pub none_left : old.channel_max < old.next
  pub fault : error ≡ refusals.ChannelMaxReached

-- why no channel was given: it stopped, else none was left
abbrev pub WhyNone : Option ConnectionStopReason → InMemory → AllocSessionError → Type 0
WhyNone (Some reason) old error = IsStopFault reason error
WhyNone None old error = NoneLeft old error

-- a connection that hasn't stopped gives the next channel, where one is left
abbrev pub AllocatesBy :
    InMemory → InMemory → Result OutgoingChannel AllocSessionError → Type 0
AllocatesBy old new (Ok channel) = (old.stop ≡ None) × GivesNext old new channel
AllocatesBy old new (Err error) = WhyNone old.stop old error × (new ≡ failed_once old)
