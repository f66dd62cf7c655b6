use Rattle.amqp_txn_codec.proofs.Bodies.{body-no_descriptor, body-no_list, body-no_kind, body-unlisted, body-found}
use Rattle.amqp_txn_codec.proofs.decoder.after_body.Goals as goal

pub returns-in_err-value : goal.returns-in_err-value
returns-in_err-value c = rw c.from_residual-in_err-value.ensures (body-no_descriptor _ _ c.in_ok-inner.ensures c.in_err-value.ensures)

pub returns-in_err-described : goal.returns-in_err-described
returns-in_err-described c = rw c.from_residual-in_err-described.ensures (body-no_list _ _ c.in_ok-inner.ensures _ c.in_ok-value.ensures c.in_err-described.ensures)

pub returns-in_err-declares : goal.returns-in_err-declares
returns-in_err-declares c = rw c.from_residual-in_err-declares.ensures (body-no_kind _ _ c.in_ok-inner.ensures _ c.in_ok-value.ensures _ c.in_ok-described.ensures c.in_err-declares.ensures)

pub returns-in_err-count : goal.returns-in_err-count
returns-in_err-count c = rw c.from_residual-in_err-count.ensures (body-unlisted _ _ c.in_ok-inner.ensures _ c.in_ok-value.ensures _ c.in_ok-described.ensures _ _ c.in_ok-declares.ensures c.in_err-count.ensures)

pub returns : goal.returns
returns c = body-found _ _ c.in_ok-inner.ensures _ c.in_ok-value.ensures _ c.in_ok-described.ensures _ _ c.in_ok-declares.ensures _ _ _ c.in_ok-count.ensures
