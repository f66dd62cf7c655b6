use Rattle.std.proofs.Common.{sym, ◌∙◌}
use Rattle.amqp_resource_record.proofs.Drawing.{draws-other, draws-last}
use Rattle.amqp_resource_record.proofs.answers.is_drawn_last.Goals as goal

pub returns-then-eq : goal.returns-then-eq
returns-then-eq c =
    draws-last c.args.entries.now c.args.drawn.now c.in-Some.before.now c.in-Some.last.now c.args.txn_id.now c.is_new_after.result c.in-Some.ensures.cases.0 (sym c.eq.ensures ∙ c.if-eq.true) c.if-drawn-gt16.false c.is_new_after.ensures

pub returns-else-eq : goal.returns-else-eq
returns-else-eq c =
    draws-other c.args.entries.now c.args.drawn.now c.in-Some.before.now c.in-Some.last.now c.args.txn_id.now c.in-Some.ensures.cases.0 (sym c.eq.ensures ∙ c.if-eq.false)
