-- Ids that no two nodes share: the example of an id source.
use Rattle.std.specs.Prelude.{ℕ, ◌+◌, ◌*◌, ◌%◌, ◌^◌}
use Rattle.std.specs.Int.{w128, to_be_bytes}
use Rattle.amqp_txn_types.specs.declared.id.TransactionId.{TransactionId}

-- the id of a node and a count: 8 octets of each, the highest first
unfoldable pub id_of_node : ℕ → ℕ → TransactionId
id_of_node node count = to_be_bytes w128 (node * 2 ^ 64 + count)

-- the ids of a node from a count on; after 2 ^ 64 - 1 comes 0
abbrev pub ids_of_node : ℕ → ℕ → ℕ → TransactionId
ids_of_node node count n = id_of_node node ((count + n) % 2 ^ 64)
