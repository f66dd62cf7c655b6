use Rattle.std.proofs.Common.{ap, sym}
use Rattle.std.specs.List.{All}
use Rattle.std.proofs.lemmas.List.Elements.{All-same}
use Rattle.amqp_resource_record.specs.declared.entry.Entry.{Entry}
use Rattle.txn_program_report.specs.Report.{reply_frames}
use Rattle.txn_audit_law.specs.Reported.{frames_given}
use Rattle.txn_audit_law.specs.Shown.{IsWithinTypes}
use Rattle.txn_audit_law.proofs.Lists.{flat, more, whole}
use Rattle.txn_audit_law.proofs.within_types.entries_are_within_types.Goals as goal

pub loop-entry-preserved : goal.loop-entry-preserved
loop-entry-preserved c =
    more (λ (entry : Entry). All IsWithinTypes (reply_frames entry.reply)) c.as_slice-list.result.now c.loop-entry.entry-index c.entry-item.result c.loop-entry-test.true c.entry-item.is c.loop-entry.invariant c.reply_is_within_types.ensures

pub returns : goal.returns
returns c =
    let list = c.as_slice-list.result.now in
    All-same IsWithinTypes (frames_given c.args.entries.now) (frames_given list) (ap frames_given (sym c.as_slice-list.ensures))
    (flat IsWithinTypes (λ (entry : Entry). reply_frames entry.reply) list
    (whole (λ (entry : Entry). All IsWithinTypes (reply_frames entry.reply)) list c.loop-entry.entry-index c.loop-entry-test.false c.loop-entry.invariant))
