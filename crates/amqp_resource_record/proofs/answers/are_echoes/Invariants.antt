use Rattle.std.proofs.Common.{drop}
use Rattle.std.specs.Prelude.{◌↔◌}
use Rattle.amqp_resource_record.specs.Hands.{frames_under}
use Rattle.amqp_below_layer.specs.Windows.{AllWindowsFit}
use Rattle.amqp_resource_record.proofs.answers.are_echoes.Given as goal

abbrev pub invariant-loop-entry : goal.invariant-loop-entry
invariant-loop-entry l =
    AllWindowsFit (frames_under l.txn_id l.entries) l.fn.echoes ↔ AllWindowsFit (frames_under l.txn_id (drop l.entry-index l.entries)) l.rest
