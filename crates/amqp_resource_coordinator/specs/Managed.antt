-- The transactions of a resource, as a map of ids to work.
use Rattle.std.specs.Prelude.{Option, List}
use Rattle.std.specs.Map.{lookup}
use Rattle.amqp_txn_types.specs.declared.id.TransactionId.{TransactionId}
use Rattle.amqp_txn_types.specs.declared.frames.TxnWorkFrame.{TxnWorkFrame}
use Rattle.amqp_txn_types.specs.Ids.{same_id}

-- each id with its work
abbrev pub Managed : Type 0
Managed = List (TransactionId × List TxnWorkFrame)

-- the work under an id, where it is held
abbrev pub work_under : Managed → TransactionId → Option (List TxnWorkFrame)
work_under all id = lookup (same_id id) all
