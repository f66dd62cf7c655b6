use Rattle.std.proofs.Common.{sym, true≢false, ◌∙◌}
use Rattle.amqp_txn_codec.proofs.Bodies.{spells-no_body, spells-no_end, spells-found}
use Rattle.amqp_txn_codec.proofs.decoder.message_in.Goals as goal

pub returns-in_err-declares : goal.returns-in_err-declares
returns-in_err-declares c =
    rw c.from_residual.ensures (spells-no_body c.args.bytes.now _ c.after_leading-start.ensures.skips c.after_leading-start.ensures.only c.in_err-declares.ensures)

pub returns-then-not-is_end : goal.returns-then-not-is_end
returns-then-not-is_end c =
    spells-no_end c.args.bytes.now _ c.after_leading-start.ensures.skips c.after_leading-start.ensures.only _ _ _ _ c.in_ok-declares.ensures
    (λ s. true≢false (sym (c.is_end.ensures.1 s) ∙ c.if-not-is_end.true))

pub returns : goal.returns
returns c =
    spells-found c.args.bytes.now _ c.after_leading-start.ensures.skips c.after_leading-start.ensures.only _ _ _ _ c.in_ok-declares.ensures
    (c.is_end.ensures.0 c.if-not-is_end.false) _ c.message_from.ensures
