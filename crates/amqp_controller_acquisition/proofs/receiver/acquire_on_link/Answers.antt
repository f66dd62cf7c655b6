use Rattle.std.proofs.Common.{◌≡◌, false}
use Rattle.amqp_controller_acquisition.specs.Receivers.{names_transaction}
use Rattle.amqp_controller_acquisition.proofs.Calling.{one-acquired, one-refused}
use Rattle.amqp_controller_acquisition.proofs.receiver.acquire_on_link.Goals as goal

-- the flow was refused, and the property that was put is taken out again
pub returns-in-Err : goal.returns-in-Err
returns-in-Err g c =
    let link = g.R.ReceiverLink in
    let none : names_transaction (link.told c.args.recver.now) ≡ false = cc in
    one-refused link.told link.insert_gives link.remove_gives link.flow_gives c.args.recver.now
    c.name_transaction.new.recver c.send_flow.new.self c.unname.new.recver c.args.txn_id.now
    c.args.credit c.in-Err.fault none c.in_ok-name_transaction.ensures
    (c.in-Err.ensures.told, c.in-Err.ensures.gives) c.unname.ensures

-- the flow tells the peer of the property that was put
pub returns : goal.returns
returns g c =
    let link = g.R.ReceiverLink in
    let none : names_transaction (link.told c.args.recver.now) ≡ false = cc in
    one-acquired link.told link.insert_gives link.remove_gives link.flow_gives c.args.recver.now
    c.name_transaction.new.recver c.send_flow.new.self c.args.txn_id.now c.args.credit
    c.in_ok-key.key none c.in_ok-name_transaction.ensures
    (rw c.in_default.is at c.send_flow.ensures.told, rw c.in_default.is at c.send_flow.ensures.gives)
