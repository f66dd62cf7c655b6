-- What a manager ends as, once the work that it lent has been changed.
use Rattle.std.specs.Prelude.{◌≡◌, cond, Option, Some, List, OnSome}
use Rattle.std.specs.Borrow.{Fml, MutBor, LendsSo}
use Rattle.amqp_txn_types.specs.declared.id.TransactionId.{TransactionId}
use Rattle.amqp_txn_types.specs.declared.frames.TxnWorkFrame.{TxnWorkFrame}
use Rattle.amqp_txn_types.specs.Ids.{same_id}
use Rattle.amqp_resource_coordinator.specs.Managed.{Managed, work_under}
use Rattle.amqp_resource_coordinator.specs.contracts.transaction_manager.TransactionManager.{the_row}
use Rattle.amqp_resource_coordinator.specs.contracts.resource_transaction.ResourceTransaction.{the_row as work_row}

-- the id has the work that was left behind the loan, and every other id its own
abbrev pub LendsWork : MutBor Managed → TransactionId → Option (MutBor (List TxnWorkFrame)) → Fml
LendsWork all id lent = LendsSo the_row work_row all lent
    (λ after work. OnSome lent ((t : TransactionId)
    → work_under after t ≡ cond (same_id id t) (Some work) (work_under all.now t)))
    (λ after. after ≡ all.now)
