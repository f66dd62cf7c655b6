use Rattle.std.proofs.Common.{◌≡◌, ◌≤◌, count_by, take}
use Rattle.amqp_resource_record.specs.declared.entry.Entry.{Entry}
use Rattle.txn_program_threads.specs.Statuses.{is_refused_reply}
use Rattle.txn_program_threads.proofs.counts.count_refused.Given as goal

abbrev pub invariant-loop-entry : goal.invariant-loop-entry
invariant-loop-entry l = record {
  counted : l.count ≡ count_by (λ (entry : Entry). is_refused_reply entry.reply) (take l.entry-index l.entries);
  few : l.count ≤ l.entry-index;
}
