use Rattle.std.proofs.Common.{◌≡◌, true, take}
use Rattle.std.specs.List.{list_all}
use Rattle.amqp_resource_record.specs.Live.{is_live}
use Rattle.amqp_resource_record.proofs.answers.are_live.Given as goal

abbrev pub invariant-loop-txn_id : goal.invariant-loop-txn_id
invariant-loop-txn_id l = list_all (is_live l.entries) (take l.txn_id-index l.txn_ids) ≡ true
