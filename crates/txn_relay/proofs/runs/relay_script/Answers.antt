use Rattle.txn_relay.proofs.Served.{runs_no_memory, runs_played}
use Rattle.txn_relay.proofs.runs.relay_script.Goals as goal

pub returns-in-Ok : goal.returns-in-Ok
returns-in-Ok g c =
    runs_played _ _ _ c.args.ids c.args.script c.in-Ok.relay c.relay_events.result (rw c.as_slice.ensures at c.in-Ok.ensures) (rw c.as_slice-in-Ok.ensures at c.relay_events.ensures)

pub returns : goal.returns
returns g c = rw c.end_without_memory.ensures (runs_no_memory _ _ _ _ _)
