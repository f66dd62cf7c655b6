use Rattle.std.proofs.Common.{Err, subst}
use Rattle.txn_program_lines.specs.Cutting.{lines_of}
use Rattle.txn_program_lines.specs.Numbered.{lines_after}
use Rattle.txn_program_lines.specs.Reads.{ReadsLines}
use Rattle.txn_mailbox.specs.Lists.{two_lists_of, with_line}
use Rattle.txn_mailbox.specs.declared.lists.TwoLists.{TwoLists}
use Rattle.txn_mailbox.proofs.Listing.{bad-lists, few-steps}
use Rattle.txn_mailbox.proofs.lists.two_lists_of.Goals as goal

pub returns-in-Ok-clause-spells : goal.returns-in-Ok-clause-spells
returns-in-Ok-clause-spells c = rw c.new-lists.ensures at c.in-Ok.ensures

pub returns-in-Ok-clause-few : goal.returns-in-Ok-clause-few
returns-in-Ok-clause-few c = few-steps c.args.octets.now c.read_lines.new.reader (rw c.new-lists.ensures at c.in-Ok.ensures)

pub returns-in-Err-clause-spells : goal.returns-in-Err-clause-spells
returns-in-Err-clause-spells c =
    bad-lists c.in-Err.error (two_lists_of c.args.octets.now) c.read_lines.new.reader
    (subst (λ (l : TwoLists). ReadsLines (lines_after with_line l 1 (lines_of c.args.octets.now)) c.read_lines.new.reader (Err c.in-Err.error)) c.new-lists.ensures c.in-Err.ensures)
