-- The listener over which `listen` runs.
use Rattle.std.specs.Prelude.{◌≡◌, [], false}
use Rattle.amqp_txn_types.specs.declared.small.InputHandle.{InputHandle}
use Rattle.amqp_txn_types.specs.declared.small.SessionState.TheVariants as states
use Rattle.amqp_below_sessions.specs.declared.plain_session.PlainSession.{PlainSession}
use Rattle.amqp_accept_links.specs.Fields.{default_shared}
use Rattle.amqp_accept_links.specs.Receivers.{IsDefaultReceiver}
use Rattle.amqp_accept_links.specs.Senders.{IsDefaultSender}
use Rattle.amqp_accept_at_once.specs.AtOnce.{Acceptor, acceptor_of, listener_of, own_of as accepting_own}
use Rattle.amqp_accept_at_once.specs.declared.accepting.AcceptingListener.{AcceptingListener}
use Rattle.amqp_accept_listener.specs.Listening.{control_of, held_of, inner_of, own_of, queue_of}
use Rattle.amqp_accept_listener.specs.declared.listener.ListenerSession.{ListenerSession}
use Rattle.amqp_engine_builder.specs.Builders.{IsNew, begin_built, default_builder}

-- an acceptor with the default fields
pub record IsDefaultAcceptor (acceptor : Acceptor) : Type 0 where
  pub shared : acceptor.shared ≡ default_shared
  pub sender : IsDefaultSender acceptor.local_sender_acceptor
  pub receiver : IsDefaultReceiver acceptor.local_receiver_acceptor

-- a Mapped session of the default builder that is listened on, with the default acceptor for
-- control links, of which nothing has come
pub record IsNewSession (listener : ListenerSession PlainSession) : Type 0 where
  pub session : IsNew (inner_of listener) (record { 0 = 0 }) states.Mapped
      (begin_built default_builder)
  pub shared : (control_of listener).shared ≡ default_shared
  pub receiver : IsDefaultReceiver (control_of listener).receiver
  pub queue : queue_of listener ≡ record { waiting = []; closed = false }
  pub held : (input : InputHandle) → held_of listener input ≡ []
  pub own : own_of listener ≡ 0

-- such a session of which each other link is accepted at once, by the default acceptor
pub record IsNewListener (listener : AcceptingListener PlainSession) : Type 0 where
  pub session : IsNewSession (listener_of listener)
  pub acceptor : IsDefaultAcceptor (acceptor_of listener)
  pub own : accepting_own listener ≡ 0
