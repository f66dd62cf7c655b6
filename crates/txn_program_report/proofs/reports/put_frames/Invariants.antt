use Rattle.std.proofs.Common.{◌≡◌, ◌++◌, take}
use Rattle.std.specs.Prelude.{string_bytes}
use Rattle.std.specs.List.{flat_map}
use Rattle.txn_program_report.specs.Report.{out_line}
use Rattle.txn_program_report.proofs.reports.put_frames.Given as goal

abbrev pub invariant-loop-frame : goal.invariant-loop-frame
invariant-loop-frame l = string_bytes l.out ≡ string_bytes l.fn.out ++ flat_map out_line (take l.frame-index l.frames)
