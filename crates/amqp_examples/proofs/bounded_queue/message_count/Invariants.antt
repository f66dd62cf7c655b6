use Rattle.std.proofs.Common.{◌≡◌, take}
use Rattle.std.specs.List.{count_by}
use Rattle.amqp_txn_types.specs.Frames.{is_transfer}
use Rattle.amqp_examples.proofs.bounded_queue.message_count.Given as goal

abbrev pub invariant-loop-frame : goal.invariant-loop-frame
invariant-loop-frame l = l.count ≡ count_by is_transfer (take l.frame-index l.frames)
