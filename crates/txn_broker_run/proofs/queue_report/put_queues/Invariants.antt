use Rattle.std.proofs.Common.{take, ◌++◌, ◌≡◌}
use Rattle.std.specs.Prelude.{string_bytes}
use Rattle.std.specs.List.{flat_map}
use Rattle.txn_broker_queues.specs.Keeping.{queue_names}
use Rattle.txn_broker_queues.specs.Taking.{taken_of}
use Rattle.txn_broker_run.specs.Reporting.{queue_lines}
use Rattle.txn_broker_run.proofs.queue_report.put_queues.Given as goal

abbrev pub invariant-loop-index : goal.invariant-loop-index
invariant-loop-index l =
    string_bytes l.out ≡ string_bytes l.fn.out ++ flat_map (queue_lines (taken_of l.broker)) (take l.index (queue_names (taken_of l.broker)))
