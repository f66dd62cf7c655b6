use Rattle.std.proofs.Common.{sym, ◌∙◌}
use Rattle.amqp_resource_record.proofs.Echoing.{echoed-commit}
use Rattle.amqp_resource_record.proofs.answers.has_its_echoes.Goals as goal

pub returns-else-rolls_back : goal.returns-else-rolls_back
returns-else-rolls_back c =
    echoed-commit c.args.entries.now c.args.discharge.txn_id _ c.args.echoes.now c.are_echoes.result (sym c.rolls_back.ensures ∙ c.if-rolls_back.false) (rw (c.entries_since.ensures, c.as_slice-else-rolls_back.ensures) at c.are_echoes.ensures)
