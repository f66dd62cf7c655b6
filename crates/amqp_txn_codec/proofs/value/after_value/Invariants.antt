use Rattle.amqp_txn_codec.specs.Walks.{IsSameRest}
use Rattle.std.proofs.Common.{◌≤◌, ◌+◌, length}
use Rattle.amqp_txn_codec.proofs.value.after_value.Given as goal

abbrev pub invariant-loop-pending : goal.invariant-loop-pending
invariant-loop-pending l = IsSameRest l.pending l.rest l.octets × (l.pending + length l.rest ≤ length l.octets + 1)

abbrev pub decreases-loop-pending : goal.decreases-loop-pending
decreases-loop-pending l = length l.rest
