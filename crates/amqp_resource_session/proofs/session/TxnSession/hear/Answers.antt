use Rattle.std.proofs.Common.{rules, arith}
use Rattle.std.proofs.lemmas.Grind.{common_steps}
use Rattle.amqp_resource_session.proofs.Heard.{hears-attach, hears-under}
use Rattle.amqp_resource_session.proofs.session.TxnSession.hear.Goals as goal

pub returns-in-Some-clause-hears : goal.returns-in-Some-clause-hears
returns-in-Some-clause-hears g c =
    hears-under g.S.Tells.told g.S.LayerBelow.incoming_gives g.S.LayerBelow.opening_gives
    c.args.self.now c.hear_under-answer.new.self c.hear_under-answer.result c.args.frame c.in-Some.id
    (first_of (search rules, grind (arith, common_steps)))
    (first_of (search rules, grind (arith, common_steps))) c.hear_under-answer.ensures.hears

pub returns-in-Some-control_attach_of-clause-hears :
    goal.returns-in-Some-control_attach_of-clause-hears
returns-in-Some-control_attach_of-clause-hears g c =
    hears-attach g.S.Tells.told g.S.LayerBelow.incoming_gives g.S.LayerBelow.opening_gives
    c.args.self.now c.hear_attach-answer.new.self c.hear_attach-answer.result c.args.frame _
    (first_of (search rules, grind (arith, common_steps)))
    c.in-Some-control_attach_of.ensures.0 c.in-Some-control_attach_of.ensures.1
    c.hear_attach-answer.ensures.hears
