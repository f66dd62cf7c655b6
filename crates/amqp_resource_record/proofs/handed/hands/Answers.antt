use Rattle.std.proofs.Common.{ap, sym, ◌∙◌}
use Rattle.amqp_resource_record.specs.Hands.{hands}
use Rattle.amqp_resource_record.proofs.Lives.{hands-own}
use Rattle.amqp_resource_record.proofs.Scanning.{hands-frame, IfOk-along}
use Rattle.amqp_resource_record.proofs.handed.hands.Goals as goal

pub returns-in-Frame : goal.returns-in-Frame
returns-in-Frame c =
    IfOk-along _ _ _ (sym (ap (hands c.args.entries.now) c.in-Frame.is ∙ hands-frame c.args.entries.now _)) c.handed_at_once.ensures

pub returns-in-Some : goal.returns-in-Some
returns-in-Some c =
    IfOk-along _ _ _ (sym (hands-own c.args.entries.now c.args.step.now c.in-Some.txn_id (sym c.commits.ensures ∙ c.in-Some.is))) (rw c.entries_since.ensures at c.stripped_frames.ensures)
