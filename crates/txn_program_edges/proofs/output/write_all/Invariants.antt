use Rattle.std.proofs.Common.{◌≡◌, ◌≤◌, length, take, drop, ℕ}
use Rattle.amqp_txn_types.specs.Growing.{grown}
use Rattle.txn_program_edges.proofs.output.write_all.Given as goal

-- a front of the text was written, and the rest of it is left, for which there is room
abbrev pub invariant-loop-rest : goal.invariant-loop-rest
invariant-loop-rest g l = record {
  count : ℕ;
  left : l.rest ≡ drop count l.text;
  within : count ≤ length l.text;
  written : g.O.ByteSink.written l.output ≡ grown (g.O.ByteSink.written l.initial.output) (take count l.text);
  room : length l.rest ≤ g.O.ByteSink.spare l.output;
  later : g.O.ByteSink.faults l.initial.output ≤ g.O.ByteSink.faults l.output;
}

abbrev pub decreases-loop-rest : goal.decreases-loop-rest
decreases-loop-rest g l = length l.rest
