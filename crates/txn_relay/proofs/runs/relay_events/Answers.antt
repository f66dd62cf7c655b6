use Rattle.std.proofs.Common.{inl}
use Rattle.txn_relay.proofs.Served.{played_all, played_no_memory}
use Rattle.txn_relay.proofs.runs.relay_events.Goals as goal

pub returns-in-Ok : goal.returns-in-Ok
returns-in-Ok g c =
    let ends = c.end_made.ensures in
    (c.play-played.new.relay, c.in-Ok.skipped, ends.relay, c.world-world.ensures.holds, inl (played_all _ _ _ _ _ _ c.in-Ok.is c.play-played.ensures.all), ends.status, ends.written)

pub returns-in-Err : goal.returns-in-Err
returns-in-Err g c = played_no_memory _ (record { written = _; faults = _; spare = 0 }) _ _ _ c.end_without_memory.result c.end_without_memory.ensures c.world-world.ensures.holds c.in-Err.ensures.some
