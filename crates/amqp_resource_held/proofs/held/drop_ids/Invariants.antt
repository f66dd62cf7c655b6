use Rattle.std.proofs.Common.{◌≡◌, cond, take, Some, None}
use Rattle.std.specs.List.{list_any}
use Rattle.amqp_txn_types.specs.declared.id.TransactionId.{TransactionId}
use Rattle.amqp_resource_log.specs.Live.{kept}
use Rattle.amqp_txn_types.specs.Ids.{same_id}
use Rattle.amqp_resource_held.specs.Looks.{Pays, frames_for}
use Rattle.amqp_resource_held.proofs.held.drop_ids.Given as goal

abbrev pub invariant-loop-id : goal.invariant-loop-id
invariant-loop-id g l = record {
  kept : (t : TransactionId) → kept l.work t ≡ cond (list_any (same_id t) (take l.id-index l.ids)) None (kept l.fn.work t);
  pays : Pays l.fn.work l.work l.fn.looks l.looks (frames_for l.fn.work (Some (take l.id-index l.ids))) 0;
}
