use Rattle.std.proofs.Common.{rules}
use Rattle.amqp_below_sessions.proofs.Leaving.{takes-detach}
use Rattle.amqp_below_sessions.proofs.plain_session.PlainSession.hear_detach.Goals as goal

pub returns-in-Ok-clause-gives : goal.returns-in-Ok-clause-gives
returns-in-Ok-clause-gives c = takes-detach _ _ _ _ (record {
  fault = search rules;
  detached = search rules;
  rest = search rules;
})
