use Rattle.std.proofs.Common.{rules}
use Rattle.amqp_below_sessions.proofs.Leaving.{takes-attach}
use Rattle.amqp_below_sessions.proofs.plain_session.PlainSession.hear_attach.Goals as goal

pub returns-in-Ok-clause-gives : goal.returns-in-Ok-clause-gives
returns-in-Ok-clause-gives c = takes-attach _ _ _ _ (record {
  fault = search rules;
  attached = search rules;
  rest = search rules;
  given = search rules;
})
