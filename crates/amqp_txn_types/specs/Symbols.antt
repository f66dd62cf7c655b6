-- The symbols by which the standard names things (OASIS AMQP 1.0, part 4).
use Rattle.std.specs.Prelude.{ℕ, List, codes}
use Rattle.amqp_txn_types.specs.declared.capability.TxnCapability.{TxnCapability}
use Rattle.amqp_txn_types.specs.declared.capability.TxnCapability.TheVariants as capabilities
use Rattle.amqp_txn_types.specs.declared.small.TransactionError.{TransactionError}
use Rattle.amqp_txn_types.specs.declared.small.TransactionError.TheVariants as errors

-- the symbol of a capability of a coordinator (4.5.7, Transaction Capability)
abbrev pub symbol_of_capability : TxnCapability → List ℕ
symbol_of_capability capabilities.LocalTransactions = codes "amqp:local-transactions"
symbol_of_capability capabilities.DistributedTransactions = codes "amqp:distributed-transactions"
symbol_of_capability capabilities.PromotableTransactions = codes "amqp:promotable-transactions"
symbol_of_capability capabilities.MultiTxnsPerSsn = codes "amqp:multi-txns-per-ssn"
symbol_of_capability capabilities.MultiSsnsPerTxn = codes "amqp:multi-ssns-per-txn"

-- the symbol of a condition of a transaction (4.5.8, Transaction Error)
abbrev pub symbol_of_transaction_error : TransactionError → List ℕ
symbol_of_transaction_error errors.UnknownId = codes "amqp:transaction:unknown-id"
symbol_of_transaction_error errors.Rollback = codes "amqp:transaction:rollback"
symbol_of_transaction_error errors.Timeout = codes "amqp:transaction:timeout"
