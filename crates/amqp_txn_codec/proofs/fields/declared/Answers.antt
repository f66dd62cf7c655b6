use Rattle.std.proofs.Common.{refl, sym, true≢false}
use Rattle.amqp_txn_codec.specs.Fields.{null, no_field, global_id}
use Rattle.amqp_txn_codec.proofs.Spellings.{declare-found, declare-no_id, declare-more}
use Rattle.amqp_txn_codec.proofs.fields.declared.Goals as goal

pub returns-then-same_octets : goal.returns-then-same_octets
returns-then-same_octets c = rw (c.if-count-eq0.true, c.if-same_octets.ensures.0 refl) no_field

pub returns-then-same_octets-2 : goal.returns-then-same_octets-2
returns-then-same_octets-2 c = rw (c.if-count-ne1.false, c.if-same_octets-2.ensures.0 refl) (global_id _ _ null)

pub returns-in_err-octets : goal.returns-in_err-octets
returns-in_err-octets c = rw c.from_residual.ensures (λ x d. declare-no_id _ _ x c.if-count-eq0.false (λ e. true≢false (sym (c.if-same_octets-2.ensures.1 e))) c.in_err-octets.ensures d)

pub returns-then-same_octets-3 : goal.returns-then-same_octets-3
returns-then-same_octets-3 c = rw (c.if-count-ne1.false, c.id_of.ensures) (declare-found _ _ _ c.in_ok-octets.ensures (c.if-same_octets-3.ensures.0 refl))

pub returns-else-same_octets-3 : goal.returns-else-same_octets-3
returns-else-same_octets-3 c = λ x d. declare-more _ _ _ _ x c.if-count-eq0.false (λ e. true≢false (sym (c.if-same_octets-2.ensures.1 e))) c.in_ok-octets.ensures (λ e. true≢false (sym (c.if-same_octets-3.ensures.1 e))) d
