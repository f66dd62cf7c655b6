use Rattle.std.proofs.Common.{◌∙◌, ◌+◌, sym, ap, drop, arith}
use Rattle.std.proofs.lemmas.List.{drop_all}
use Rattle.amqp_below_recorder.specs.Recording.{any_refused, is_among}
use Rattle.amqp_below_recorder.proofs.Planned.{any_refused-next}
use Rattle.amqp_below_recorder.proofs.call_numbers.any_refused.Goals as goal

-- the next call is refused
pub returns-then-is_among : goal.returns-then-is_among
returns-then-is_among c =
    sym
    (c.loop-frame.invariant
    ∙ any_refused-next c.args.refused.now c.loop-frame.number c.args.frames.now c.loop-frame._frame-index c._frame-item.result _
    (omega arith)
    (sym (ap (is_among c.args.refused.now) c.saturating_add-number.ensures) ∙ sym c.is_among.ensures ∙ c.if-is_among.true))

-- it isn't
pub loop-frame-preserved : goal.loop-frame-preserved
loop-frame-preserved c =
    c.loop-frame.invariant
    ∙ any_refused-next c.args.refused.now c.loop-frame.number c.args.frames.now c.loop-frame._frame-index c._frame-item.result _
    (omega arith)
    (sym (ap (is_among c.args.refused.now) c.saturating_add-number.ensures) ∙ sym c.is_among.ensures ∙ c.if-is_among.false)
    ∙ ap (λ calls. any_refused c.args.refused.now calls (drop (c.loop-frame._frame-index + 1) c.args.frames.now)) (sym c.saturating_add-number.ensures)

-- none is left
pub returns : goal.returns
returns c =
    sym
    (c.loop-frame.invariant
    ∙ ap (any_refused c.args.refused.now c.loop-frame.number) (drop_all c.loop-frame._frame-index c.args.frames.now (omega arith)))
