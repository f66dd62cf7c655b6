-- Builders of sessions.
use Rattle.std.specs.Prelude.{◌≡◌, ◌++◌, Option, Some, None, Result, Ok, Err, List, [], ◌∷◌}
use Rattle.amqp_txn_types.specs.declared.performatives.Begin.{Begin}
use Rattle.amqp_txn_types.specs.declared.small.OutgoingChannel.{OutgoingChannel}
use Rattle.amqp_txn_types.specs.declared.small.SessionState.{SessionState}
use Rattle.amqp_txn_types.specs.declared.small.SessionState.TheVariants as states
use Rattle.amqp_txn_types.specs.declared.text.Symbol.{Symbol}
use Rattle.amqp_below_connections.specs.Connections.{Allocates, ConnectionTold, begin_error}
use Rattle.amqp_below_connections.specs.declared.connection.AllocSessionError.{AllocSessionError}
use Rattle.amqp_below_sessions.specs.declared.plain_session.PlainSession.{PlainSession}
use Rattle.amqp_below_sessions.specs.declared.session_errors.BeginError.{BeginError}
use Rattle.amqp_below_sessions.specs.declared.session_errors.BeginError.TheVariants as refusals
use Rattle.amqp_below_sessions.specs.Numbers.{at_first}
use Rattle.amqp_below_sessions.specs.PlainSessions.{begin_of, channel_of, connection_stop_of, incoming_of, links_of, numbers_of, refusals_of, slots_of, state_of, stop_of, untold_of, vetoes_of}
use Rattle.amqp_engine_builder.specs.declared.builder.Builder.{Builder}

-- the builder whose fields were not set
abbrev pub default_builder : Builder
default_builder = record {
  next_outgoing_id = 0;
  incoming_window = 2048;
  outgoing_window = 2048;
  handle_max = record { 0 = 4294967295 };
  offered_capabilities = None;
  desired_capabilities = None;
  properties = None;
  buffer_size = 65535;
  control_link_acceptor = None;
}

-- one more symbol at the end of a list, or a list of it
abbrev pub with_symbol : Option (List Symbol) → Symbol → Option (List Symbol)
with_symbol None symbol = Some (symbol ∷ [])
with_symbol (Some symbols) symbol = Some (symbols ++ symbol ∷ [])

-- the begin of the session that is built
abbrev pub begin_built : Builder → Begin
begin_built builder = record {
  remote_channel = None;
  next_outgoing_id = builder.next_outgoing_id;
  incoming_window = builder.incoming_window;
  outgoing_window = builder.outgoing_window;
  handle_max = builder.handle_max;
  offered_capabilities = builder.offered_capabilities;
  desired_capabilities = builder.desired_capabilities;
  properties = builder.properties;
}

-- a session without links, to which nothing has come and which refused and vetoed nothing
pub record IsNew (session : PlainSession) (channel : OutgoingChannel) (state : SessionState)
    (begin : Begin) : Type 0 where
  pub in_state : state_of session ≡ state
  pub on_channel : channel_of session ≡ channel
  pub with_begin : begin_of session ≡ begin
  pub incoming : incoming_of session ≡ None
  pub numbers : numbers_of session ≡ at_first begin
  pub slots : slots_of session ≡ []
  pub next : (links_of session).next ≡ 0
  pub untold : untold_of session ≡ 0
  pub stop : stop_of session ≡ None
  pub connection_stop : connection_stop_of session ≡ None
  pub refusals : refusals_of session ≡ 0
  pub vetoes : vetoes_of session ≡ 0

-- a session on a channel that the connection gave, whose begin is sent
pub record BegunOn (session : PlainSession) (sent : Begin) (channel : OutgoingChannel)
    (begin : Begin) : Type 0 where
  pub is_new : IsNew session channel states.BeginSent begin
  pub sends : sent ≡ begin

-- a session begins on the channel that the connection gave; the only error then is out of memory
abbrev pub BeginsOn : Begin → Result OutgoingChannel AllocSessionError
    → Result (PlainSession × Begin) BeginError → Type 0
BeginsOn begin (Ok channel) (Ok begun) = BegunOn begun.0 begun.1 channel begin
BeginsOn begin (Ok channel) (Err error) = error ≡ refusals.NoMemory
BeginsOn begin (Err refused) result = result ≡ Err (begin_error refused)

-- the connection was asked for a channel, of which it tells and gives this, and the session begins
-- by what it answered
abbrev pub BeginsOver : {C : Type 0} → (C → ConnectionTold)
    → (C → C → Result OutgoingChannel AllocSessionError → Type 0) → C → C → Begin
    → Result (PlainSession × Begin) BeginError → Type 0
BeginsOver told gives old new begin result = (answer : Result OutgoingChannel AllocSessionError)
    × Allocates (told old) (told new) answer × gives old new answer × BeginsOn begin answer result
