use Rattle.std.proofs.Common.{rules}
use Rattle.amqp_below_sessions.proofs.Leaving.{takes-transfer}
use Rattle.amqp_below_sessions.proofs.plain_session.PlainSession.hear_transfer.Goals as goal

pub returns-in-Ok-clause-gives : goal.returns-in-Ok-clause-gives
returns-in-Ok-clause-gives c = takes-transfer _ _ _ _ _ (record {
  fault = search rules;
  counted = search rules;
  ends = c.in-Ok.ensures.ends;
  rest = search rules;
  given = search rules;
})
