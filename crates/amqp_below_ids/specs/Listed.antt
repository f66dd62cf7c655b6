-- Ids from a list.
use Rattle.std.specs.Prelude.{ℕ, ◌-◌, List, [], length, min, slice_index_or}
use Rattle.amqp_txn_types.specs.declared.id.TransactionId.{TransactionId}

-- the id at a place of the list, which goes on with its last one
abbrev pub listed : List TransactionId → ℕ → TransactionId
listed ids n = slice_index_or ids (min n (length ids - 1)) []
