use Rattle.std.proofs.Common.{◌≡◌, ◌++◌, take}
use Rattle.std.specs.Prelude.{string_bytes}
use Rattle.std.specs.List.{flat_map}
use Rattle.txn_program_report.specs.Report.{entry_lines}
use Rattle.txn_program_report.proofs.reports.put_entries.Given as goal

abbrev pub invariant-loop-entry : goal.invariant-loop-entry
invariant-loop-entry l = string_bytes l.out ≡ string_bytes l.fn.out ++ flat_map entry_lines (take l.entry-index l.entries)
