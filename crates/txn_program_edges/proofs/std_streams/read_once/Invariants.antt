use Rattle.std.specs.Io.KnownBytes.{Keeps}
use Rattle.txn_program_edges.proofs.std_streams.read_once.Given as goal

-- the reads that were interrupted took nothing
abbrev pub invariant-loop : goal.invariant-loop
invariant-loop g l = Keeps (g.R.Read.remaining l.initial.reader) (g.R.Read.remaining l.reader)
