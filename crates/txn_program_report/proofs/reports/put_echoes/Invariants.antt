use Rattle.std.proofs.Common.{◌≡◌, ◌++◌, take}
use Rattle.std.specs.Prelude.{string_bytes}
use Rattle.std.specs.List.{flat_map}
use Rattle.txn_program_report.specs.Report.{answer_frames, out_line}
use Rattle.txn_program_report.proofs.reports.put_echoes.Given as goal

abbrev pub invariant-loop-answers : goal.invariant-loop-answers
invariant-loop-answers l = string_bytes l.out ≡ string_bytes l.fn.out ++ flat_map out_line (flat_map answer_frames (take l.answers-index l.echoes))
