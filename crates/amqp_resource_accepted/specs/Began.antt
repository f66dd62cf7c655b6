-- What a session is that this side began.
use Rattle.std.specs.Prelude.{◌≡◌, Option, Some, None, Result, Ok, Err, []}
use Rattle.amqp_txn_types.specs.declared.performatives.Begin.{Begin}
use Rattle.amqp_txn_types.specs.declared.small.OutgoingChannel.{OutgoingChannel}
use Rattle.amqp_below_sessions.specs.declared.plain_session.PlainSession.{PlainSession}
use Rattle.amqp_below_sessions.specs.declared.session_errors.BeginError.{BeginError}
use Rattle.amqp_below_sessions.specs.declared.session_errors.BeginError.TheVariants as refusals
use Rattle.amqp_below_connections.specs.Connections.{Allocates, ConnectionTold, begin_error}
use Rattle.amqp_below_connections.specs.declared.connection.AllocSessionError.{AllocSessionError}
use Rattle.amqp_accept_links.specs.declared.control.ControlLinkAcceptor.{ControlLinkAcceptor}
use Rattle.amqp_resource_session.specs.declared.session.TxnSession.{TxnSession}
use Rattle.amqp_resource_session.specs.Session.{FitsTogether, StandsFor, below_of, refusals_of, stop_of, vetoes_of}
use Rattle.amqp_engine_builder.specs.declared.builder.Builder.{Builder}
use Rattle.amqp_engine_builder.specs.Builders.{BegunOn, begin_built}
use Rattle.amqp_resource_accepted.specs.declared.began.BeganSession.{BeganSession}
use Rattle.amqp_resource_accepted.specs.declared.began.BeganSession.TheVariants as begans

-- a transactional session over a new one whose begin is sent, with no live id, no link opened and
-- not stopped
pub record BegunOver (session : TxnSession PlainSession) (sent : Begin) (channel : OutgoingChannel)
    (begin : Begin) : Type 0 where
  pub begun : BegunOn (below_of session) sent channel begin
  pub stands : StandsFor session []
  pub fits : FitsTogether session
  pub runs : stop_of session ≡ None
  pub own : refusals_of session ≡ 0
  pub vetoes : vetoes_of session ≡ 0

-- a session is transactional exactly where its builder has an acceptor of control links
abbrev pub IsBegan : Option ControlLinkAcceptor → BeganSession → Begin → OutgoingChannel → Begin
    → Type 0
IsBegan None (begans.Plain client) sent channel begin = BegunOn client sent channel begin
IsBegan (Some control) (begans.Transactional client) sent channel begin =
    BegunOver client sent channel begin
IsBegan _ _ sent channel begin = ⊥

-- a session begins on the channel that the connection gave; the only error then is out of memory
abbrev pub BeginsSession : Builder → Result OutgoingChannel AllocSessionError
    → Result (BeganSession × Begin) BeginError → Type 0
BeginsSession builder (Ok channel) (Ok began) =
    IsBegan builder.control_link_acceptor began.0 began.1 channel (begin_built builder)
BeginsSession builder (Ok channel) (Err error) = error ≡ refusals.NoMemory
BeginsSession builder (Err refused) result = result ≡ Err (begin_error refused)

-- the connection was asked for a channel, of which it tells and gives this, and the session begins
-- by what it answered
abbrev pub BeginsAny : {C : Type 0} → (C → ConnectionTold)
    → (C → C → Result OutgoingChannel AllocSessionError → Type 0) → C → C → Builder
    → Result (BeganSession × Begin) BeginError → Type 0
BeginsAny told gives old new builder result = (answer : Result OutgoingChannel AllocSessionError)
    × Allocates (told old) (told new) answer × gives old new answer
    × BeginsSession builder answer result
