-- Ids that are numbers.
use Rattle.std.specs.Prelude.{ℕ, ◌+◌, ◌%◌, ◌^◌}
use Rattle.std.specs.Int.{w128, to_be_bytes}
use Rattle.amqp_txn_types.specs.declared.id.TransactionId.{TransactionId}

-- the id of a number: its 16 octets, the highest first
unfoldable pub id_of_number : ℕ → TransactionId
id_of_number number = to_be_bytes w128 number

-- the ids of the numbers from the first on; after 2 ^ 64 - 1 comes 0
abbrev pub ids_from : ℕ → ℕ → TransactionId
ids_from first n = id_of_number ((first + n) % 2 ^ 64)
