use Rattle.std.proofs.Common.{take}
use Rattle.std.specs.List.{All}
use Rattle.txn_audit_law.specs.Shown.{IsWithinTypes}
use Rattle.txn_audit_law.proofs.within_types.frames_are_within_types.Given as goal

abbrev pub invariant-loop-frame : goal.invariant-loop-frame
invariant-loop-frame l = All IsWithinTypes (take l.frame-index l.list)
