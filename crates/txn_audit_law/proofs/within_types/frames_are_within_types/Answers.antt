use Rattle.std.proofs.Common.{sym}
use Rattle.std.proofs.lemmas.List.Elements.{All-same}
use Rattle.txn_audit_law.specs.Shown.{IsWithinTypes}
use Rattle.txn_audit_law.proofs.Lists.{more, whole}
use Rattle.txn_audit_law.proofs.within_types.frames_are_within_types.Goals as goal

pub loop-frame-preserved : goal.loop-frame-preserved
loop-frame-preserved c = more IsWithinTypes c.as_slice-list.result.now c.loop-frame.frame-index c.frame-item.result c.loop-frame-test.true c.frame-item.is c.loop-frame.invariant c.frame_is_within_types.ensures

pub returns : goal.returns
returns c =
    All-same IsWithinTypes c.args.frames.now c.as_slice-list.result.now (sym c.as_slice-list.ensures)
    (whole IsWithinTypes c.as_slice-list.result.now c.loop-frame.frame-index c.loop-frame-test.false c.loop-frame.invariant)
