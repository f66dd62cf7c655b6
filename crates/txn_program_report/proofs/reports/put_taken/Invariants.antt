use Rattle.std.proofs.Common.{◌≡◌, ◌++◌, take}
use Rattle.std.specs.Prelude.{string_bytes}
use Rattle.std.specs.List.{flat_map}
use Rattle.txn_program_report.specs.Report.{taken_line}
use Rattle.txn_program_report.proofs.reports.put_taken.Given as goal

abbrev pub invariant-loop-exchange : goal.invariant-loop-exchange
invariant-loop-exchange l = string_bytes l.out ≡ string_bytes l.fn.out ++ flat_map taken_line (take l.exchange-index l.taken)
