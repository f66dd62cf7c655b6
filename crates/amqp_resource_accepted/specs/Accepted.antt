-- What a session is that was accepted.
use Rattle.std.specs.Prelude.{◌≡◌, false, Option, Some, None, Result, Ok, Err, []}
use Rattle.amqp_txn_types.specs.declared.performatives.Begin.{Begin}
use Rattle.amqp_txn_types.specs.declared.small.InputHandle.{InputHandle}
use Rattle.amqp_txn_types.specs.declared.small.OutgoingChannel.{OutgoingChannel}
use Rattle.amqp_txn_types.specs.declared.small.SessionState.TheVariants as states
use Rattle.amqp_below_sessions.specs.declared.plain_session.PlainSession.{PlainSession}
use Rattle.amqp_below_sessions.specs.declared.session_errors.BeginError.{BeginError}
use Rattle.amqp_below_sessions.specs.declared.session_errors.BeginError.TheVariants as refusals
use Rattle.amqp_below_sessions.specs.Numbers.{after_begin, at_first}
use Rattle.amqp_below_sessions.specs.PlainSessions.{begin_of, channel_of, connection_stop_of, incoming_of, links_of, numbers_of, refusals_of, slots_of, state_of, stop_of, untold_of, vetoes_of}
use Rattle.amqp_below_connections.specs.declared.connection.IncomingSession.{IncomingSession}
use Rattle.amqp_accept_links.specs.declared.control.ControlLinkAcceptor.{ControlLinkAcceptor}
use Rattle.amqp_accept_links.specs.Fields.{default_shared}
use Rattle.amqp_accept_links.specs.Receivers.{IsDefaultReceiver}
use Rattle.amqp_accept_listener.specs.declared.listener.ListenerSession.{ListenerSession}
use Rattle.amqp_accept_listener.specs.Listening.{control_of, held_of, inner_of, own_of, queue_of}
use Rattle.amqp_resource_session.specs.declared.session.TxnSession.{TxnSession}
use Rattle.amqp_resource_session.specs.Session.{FitsTogether, StandsFor, below_of, owed_of, refusals_of as own_refusals_of, stop_of as code_of, vetoes_of as own_vetoes_of}
use Rattle.amqp_engine_builder.specs.declared.builder.Builder.{Builder}
use Rattle.amqp_engine_builder.specs.Builders.{begin_built}
use Rattle.amqp_resource_accepted.specs.declared.accepted.AcceptedSession.{AcceptedSession}
use Rattle.amqp_resource_accepted.specs.declared.accepted.AcceptedSession.TheVariants as accepteds
use Rattle.amqp_resource_accepted.specs.declared.accepted.Parts.{Parts}

-- a session with this begin that the peer's begin came to, and nothing else
pub record HasBegun (session : PlainSession) (begin : Begin) (begun : IncomingSession)
    (channel : OutgoingChannel) : Type 0 where
  pub in_state : state_of session ≡ states.Mapped
  pub on_channel : channel_of session ≡ channel
  pub with_begin : begin_of session ≡ begin
  pub incoming : incoming_of session ≡ Some (record { 0 = begun.channel })
  pub numbers : numbers_of session ≡ after_begin (at_first begin) begun.begin
  pub slots : slots_of session ≡ []
  pub next : (links_of session).next ≡ 0
  pub untold : untold_of session ≡ 0
  pub stop : stop_of session ≡ None
  pub connection_stop : connection_stop_of session ≡ None
  pub refusals : refusals_of session ≡ 0
  pub vetoes : vetoes_of session ≡ 0

-- an acceptor of control links whose fields were not set
abbrev pub IsDefaultControl : ControlLinkAcceptor → Type 0
IsDefaultControl control = (control.shared ≡ default_shared) × IsDefaultReceiver control.receiver

-- a listener over such a session, with an open queue in which no attach waits
pub record IsListening (Control : ControlLinkAcceptor → Type 0)
    (listener : ListenerSession PlainSession) (begin : Begin) (begun : IncomingSession)
    (channel : OutgoingChannel) : Type 0 where
  pub session : HasBegun (inner_of listener) begin begun channel
  pub control : Control (control_of listener)
  pub queue : queue_of listener ≡ record { waiting = []; closed = false }
  pub held : (input : InputHandle) → held_of listener input ≡ []
  pub own : own_of listener ≡ 0

-- a transactional session over such a listener, with no live id, no link opened and not stopped
pub record IsTransacting (Control : ControlLinkAcceptor → Type 0)
    (session : TxnSession (ListenerSession PlainSession)) (begin : Begin) (begun : IncomingSession)
    (channel : OutgoingChannel) : Type 0 where
  pub listening : IsListening Control (below_of session) begin begun channel
  pub stands : StandsFor session []
  pub fits : FitsTogether session
  pub owed : owed_of session ≡ 0
  pub runs : code_of session ≡ None
  pub own : own_refusals_of session ≡ 0
  pub vetoes : own_vetoes_of session ≡ 0

-- a session is transactional exactly where there is an acceptor of control links, which is its
-- listener's; the listener of any other has the default one
abbrev pub IsAccepted : Option ControlLinkAcceptor → AcceptedSession → Begin → IncomingSession
    → OutgoingChannel → Type 0
IsAccepted None (accepteds.Plain engine) begin begun channel =
    IsListening IsDefaultControl engine begin begun channel
IsAccepted (Some control) (accepteds.Transactional engine) begin begun channel =
    IsTransacting (λ kept. kept ≡ control) engine begin begun channel
IsAccepted _ _ begin begun channel = ⊥

-- the begin that is sent: the session's own, for the peer's channel
abbrev pub begin_answered : Begin → IncomingSession → Begin
begin_answered begin begun = record begin { remote_channel = Some begun.channel }

-- what a builder says of the session that is accepted
abbrev pub parts_of : Builder → Parts
parts_of builder = record {
  begin = begin_built builder;
  sent = begin_built builder;
  control = builder.control_link_acceptor;
}

-- a session was accepted, and its begin is to be sent; the only error is out of memory
abbrev pub AcceptsOn : Builder → IncomingSession → OutgoingChannel
    → Result (AcceptedSession × Begin) BeginError → Type 0
AcceptsOn builder begun channel (Ok accepted) =
    IsAccepted builder.control_link_acceptor accepted.0 (begin_built builder) begun channel
    × (accepted.1 ≡ begin_answered (begin_built builder) begun)
AcceptsOn builder begun channel (Err error) = error ≡ refusals.NoMemory
