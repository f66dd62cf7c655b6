use Rattle.std.proofs.Common.{take}
use Rattle.std.specs.List.{All}
use Rattle.amqp_resource_record.specs.declared.entry.Entry.{Entry}
use Rattle.txn_program_report.specs.Report.{reply_frames}
use Rattle.txn_audit_law.specs.Shown.{IsWithinTypes}
use Rattle.txn_audit_law.proofs.within_types.entries_are_within_types.Given as goal

abbrev pub invariant-loop-entry : goal.invariant-loop-entry
invariant-loop-entry l = All (λ (entry : Entry). All IsWithinTypes (reply_frames entry.reply)) (take l.entry-index l.list)
