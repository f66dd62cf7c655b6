use Rattle.amqp_txn_codec.proofs.Bodies.{kind-none, kind-declare, kind-discharge}
use Rattle.amqp_txn_codec.proofs.decoder.after_kind.Goals as goal

pub returns-in-Some : goal.returns-in-Some
returns-in-Some c = kind-declare _ _ c.in-Some.ensures

pub returns-in_err-list : goal.returns-in_err-list
returns-in_err-list c = rw c.from_residual.ensures (kind-none _ c.in_default.ensures c.in_err-list.ensures)

pub returns : goal.returns
returns c = kind-discharge _ _ c.in_ok-list.ensures
