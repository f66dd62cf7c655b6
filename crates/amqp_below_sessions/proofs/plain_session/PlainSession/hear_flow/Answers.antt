use Rattle.std.proofs.Common.{rules}
use Rattle.amqp_below_sessions.proofs.Leaving.{takes-flow}
use Rattle.amqp_below_sessions.proofs.plain_session.PlainSession.hear_flow.Goals as goal

pub returns-in-Ok-clause-gives : goal.returns-in-Ok-clause-gives
returns-in-Ok-clause-gives c = takes-flow _ _ _ _ (record {
  fault = search rules;
  added = search rules;
  rest = search rules;
  given = search rules;
})
