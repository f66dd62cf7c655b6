use Rattle.std.proofs.Common.{◌≤◌, ◌+◌, ◌-◌, length}
use Rattle.txn_program_edges.specs.Reading.{IsRead}
use Rattle.txn_program_edges.proofs.input.read_up_to.Given as goal

-- what was read, where it is told, is what stands in the list
abbrev pub invariant-loop-chunk : goal.invariant-loop-chunk
invariant-loop-chunk g l = record {
  octets : IsRead (g.I.ByteSource.rest l.initial.input) l.octets.items (g.I.ByteSource.rest l.input);
  within : length l.octets.items ≤ l.limit + 1;
  later : g.I.ByteSource.faults l.initial.input ≤ g.I.ByteSource.faults l.input;
}

abbrev pub decreases-loop-chunk : goal.decreases-loop-chunk
decreases-loop-chunk g l = l.limit + 1 - length l.octets.items
