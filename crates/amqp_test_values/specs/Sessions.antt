-- The sessions that tests use.
use Rattle.std.specs.Prelude.{ℕ, ◌≡◌, None, []}
use Rattle.amqp_txn_types.specs.declared.small.ReceiverSettleMode.TheVariants as receivers
use Rattle.amqp_txn_types.specs.declared.small.Role.{Role}
use Rattle.amqp_txn_types.specs.declared.small.SessionState.{SessionState}
use Rattle.amqp_test_values.specs.Frames.{begin_of}
use Rattle.amqp_below_sessions.specs.declared.plain_session.PlainSession.{PlainSession}
use Rattle.amqp_below_sessions.specs.declared.relay.Relay.{Relay}
use Rattle.amqp_below_sessions.specs.Numbers.{at_first}
use Rattle.amqp_below_sessions.specs.PlainSessions as plain

-- the session was just made in that state
pub record IsNew (made_in : SessionState) (handle_max : ℕ) (session : PlainSession) : Type 0 where
  pub state : plain.state_of session ≡ made_in
  pub channel : plain.channel_of session ≡ record { 0 = 7 }
  pub incoming : plain.incoming_of session ≡ None
  pub begin : plain.begin_of session ≡ begin_of handle_max
  pub numbers : plain.numbers_of session ≡ at_first (begin_of handle_max)
  pub slots : plain.slots_of session ≡ []
  pub untold : plain.untold_of session ≡ 0
  pub stop : plain.stop_of session ≡ None
  pub connection : plain.connection_stop_of session ≡ None
  pub refusals : plain.refusals_of session ≡ 0
  pub vetoes : plain.vetoes_of session ≡ 0

-- what is kept for a link to which nothing came
abbrev pub relay_of : Role → Relay
relay_of role = record {
  name = [];
  role = role;
  rcv_settle_mode = receivers.First;
  flows = [];
  transfers = 0;
}
