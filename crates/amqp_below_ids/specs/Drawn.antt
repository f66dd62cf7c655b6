use Rattle.std.specs.Prelude.{ℕ, List}
use Rattle.amqp_txn_types.specs.declared.id.TransactionId.{TransactionId}

-- the ids of a declare, and how many more have room
pub record DrawnIds : Type 0 where
  pub ids : List TransactionId
  pub spare : ℕ
