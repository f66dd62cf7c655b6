use Rattle.std.proofs.Common.{arith}
use Rattle.txn_program_edges.proofs.Streaming.{too_long}
use Rattle.txn_program_edges.proofs.input.read_up_to.Goals as goal

pub returns : goal.returns
returns g c = record { found = too_long _ _ _ _ c.loop-chunk.invariant.octets (omega arith) }
