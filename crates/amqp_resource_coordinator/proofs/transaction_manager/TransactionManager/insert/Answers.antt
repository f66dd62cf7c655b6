use Rattle.std.proofs.Common.{◌∙◌, ap, cond, Some, []}
use Rattle.amqp_txn_types.specs.Ids.{same_id}
use Rattle.amqp_resource_coordinator.specs.Managed.{work_under}
use Rattle.amqp_resource_coordinator.proofs.transaction_manager.TransactionManager.insert.Goals as goal

-- the map's entries are what the manager was seen as, and the new work is none
pub returns-in-Ok-clause-ok : goal.returns-in-Ok-clause-ok
returns-in-Ok-clause-ok c = λ t.
    c.in-Ok.ensures.updates.0 t
    ∙ ap (λ work. cond (same_id c.args.txn_id t) (Some work) (work_under c.self.inside.transactions.entries t)) c.new.ensures
    ∙ ap (λ all. cond (same_id c.args.txn_id t) (Some []) (work_under all t)) c.self.view_is
