use Rattle.std.proofs.Common.{◌≡◌, take}
use Rattle.daxurbi_session.proofs.slot_ids.ids_in.Given as goal

abbrev pub invariant-loop-chunk : goal.invariant-loop-chunk
invariant-loop-chunk l = l.ids.items ≡ take l.chunk-index l.chunks
