-- The ids of a list of octets.
use Rattle.std.specs.Prelude.{ℕ, ◌/◌, List, length}
use Rattle.std.specs.Simd.{first_chunks}
use Rattle.amqp_txn_types.specs.declared.id.TransactionId.{TransactionId}

-- the octets cut into ids of 16 each
abbrev pub ids_in : List ℕ → List TransactionId
ids_in octets = first_chunks 16 (length octets / 16) octets
