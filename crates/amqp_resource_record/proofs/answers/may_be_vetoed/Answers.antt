use Rattle.std.proofs.Common.{sym, ◌∙◌}
use Rattle.amqp_resource_record.proofs.Echoing.{vetoed-commit}
use Rattle.amqp_resource_record.proofs.answers.may_be_vetoed.Goals as goal

pub returns-then-not-rolls_back : goal.returns-then-not-rolls_back
returns-then-not-rolls_back c =
    vetoed-commit c.args.entries.now c.args.discharge.txn_id _ c.has_frame_under.result (sym c.rolls_back.ensures ∙ c.if-not-rolls_back.true) (rw c.entries_since.ensures at c.has_frame_under.ensures)
