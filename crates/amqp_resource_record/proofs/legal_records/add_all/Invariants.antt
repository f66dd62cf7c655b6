use Rattle.std.proofs.Common.{◌≡◌, ◌++◌}
use Rattle.amqp_resource_record.proofs.legal_records.add_all.Given as goal

abbrev pub invariant-loop-frame : goal.invariant-loop-frame
invariant-loop-frame l = l.frames ≡ l.fn.frames ++ l.yielded
