use Rattle.std.proofs.Common.{refl, sym, true≢false}
use Rattle.amqp_txn_codec.proofs.Spellings.{discharge-found, discharge-fails, discharge-no_id, discharge-more, discharge-no_fail}
use Rattle.amqp_txn_codec.proofs.fields.discharged.Goals as goal

pub returns-in_err-octets : goal.returns-in_err-octets
returns-in_err-octets c = rw c.from_residual.ensures (discharge-no_id _ _ c.in_err-octets.ensures)

pub returns-then-same_octets : goal.returns-then-same_octets
returns-then-same_octets c = rw (c.if-count-eq1.true, c.id_of-id.ensures) (discharge-found _ _ _ c.in_ok-octets.ensures (c.if-same_octets.ensures.0 refl))

pub returns-else-same_octets : goal.returns-else-same_octets
returns-else-same_octets c = discharge-more _ _ _ _ c.if-count-eq1.true c.in_ok-octets.ensures (λ e. true≢false (sym (c.if-same_octets.ensures.1 e)))

pub returns-in_err-fail : goal.returns-in_err-fail
returns-in_err-fail c = rw c.from_residual-in_err-fail.ensures (discharge-no_fail _ _ _ _ c.if-count-eq1.false c.in_ok-octets.ensures c.in_err-fail.ensures)

pub returns : goal.returns
returns c = rw (c.if-count-ne2.false, c.id_of-id.ensures) (discharge-fails _ _ _ _ c.in_ok-octets.ensures c.in_ok-fail.ensures)
