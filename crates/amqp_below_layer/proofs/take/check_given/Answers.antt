use Rattle.std.proofs.Common.{rules, arith}
use Rattle.amqp_below_layer.proofs.Checked.{checks-next, checks-refused}
use Rattle.amqp_below_layer.proofs.take.check_given.Goals as goal

-- a check refused: those before it passed
pub returns-in_err-check_frame-clause-checks : goal.returns-in_err-check_frame-clause-checks
returns-in_err-check_frame-clause-checks g c =
    let refused = checks-refused g.S.LayerBelow.check_gives _ _ _ c.args.given.now c.loop-frame.frame-index c.frame-item.result c.in_err-check_frame.field-0.0
    (omega arith) c.frame-item.is c.loop-frame.invariant.1 c.in_err-check_frame.ensures.checks in
    search (rules, refused)

-- one frame more passed
pub loop-frame-preserved : goal.loop-frame-preserved
loop-frame-preserved g c = (
  search rules,
  checks-next g.S.LayerBelow.check_gives _ _ _ c.args.given.now c.loop-frame.frame-index c.frame-item.result
      (omega arith) c.frame-item.is c.loop-frame.invariant.1 c.in_ok-check_frame.ensures.checks,
)
