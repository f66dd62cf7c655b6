use Rattle.amqp_txn_codec.specs.Walks.{declare, discharge}
use Rattle.amqp_txn_codec.proofs.Bodies.{message-no_discharge}
use Rattle.amqp_txn_codec.proofs.decoder.message_from.Goals as goal

pub returns-in_err-txn_id : goal.returns-in_err-txn_id
returns-in_err-txn_id c = rw c.from_residual-in_err-txn_id.ensures (message-no_discharge _ _ _ c.if-declares.false c.in_err-txn_id.ensures)

pub returns-in_ok-global_id : goal.returns-in_ok-global_id
returns-in_ok-global_id c = rw c.if-declares.true (declare _ _ _ c.in_ok-global_id.ensures)

pub returns-in_ok-txn_id : goal.returns-in_ok-txn_id
returns-in_ok-txn_id c = rw c.if-declares.false (discharge _ _ _ _ c.in_ok-txn_id.ensures)
