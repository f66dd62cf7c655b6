use Rattle.amqp_below_ids.specs.Listed.{listed}
use Rattle.txn_relay.proofs.Started.{start_from}
use Rattle.txn_relay.proofs.runs.new_relay.Goals as goal

pub returns-in-Ok : goal.returns-in-Ok
returns-in-Ok c =
    let starts = start_from _ _ c.in_ok-broker.broker c.in_ok-source.source c.args.ids c.args.payloads.now c.in-Ok.world c.in_ok-broker.work (listed c.args.ids)
    c.in-Ok.ensures c.in_ok-broker.ensures.broker c.in_ok-broker.ensures.messages (rw c.as_slice.ensures at c.in_ok-source.ensures.next) in
    rw c.new-in-Ok.ensures.made (record { ready = starts.0; work = starts.1; stream = starts.2 })
