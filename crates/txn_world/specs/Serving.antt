-- The resource's session beside what is kept of the two parties.
use Rattle.std.specs.Prelude.{◌≡◌, Bool, Some, None}
use Rattle.amqp_resource_session.specs.declared.session.TxnSession.{TxnSession}
use Rattle.amqp_resource_session.specs.Session.{StandsFor, below_of, stop_of}
use Rattle.txn_parties.specs.declared.item.Halt.{Halt}
use Rattle.txn_world_wires.specs.declared.parties.Parties.{Parties}
use Rattle.txn_world_wires.specs.Parties.{exchange_of}
use Rattle.txn_world.specs.Happening.{TwoParties}

-- the two parties, by the session, the id source and what is kept beside them
abbrev pub two_parties : {S G : Type 0} → Bool → TxnSession S → G → Parties → TwoParties S G
two_parties sure session ids p = record {
  sides = exchange_of sure p;
  below = below_of session;
  ids = ids;
}

-- while it hasn't stopped the session stands for the record; once it has, it keeps the code that is
-- told
pub record Serves {S : Type 0} (session : TxnSession S) (p : Parties) : Type 0 where
  pub runs : p.stop ≡ None → stop_of session ≡ None
  pub stands : p.stop ≡ None → StandsFor session p.entries
  pub code : (halt : Halt) → p.stop ≡ Some halt → stop_of session ≡ Some halt.code
