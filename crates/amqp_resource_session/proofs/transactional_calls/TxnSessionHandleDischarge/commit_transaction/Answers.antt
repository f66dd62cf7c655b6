use Rattle.std.proofs.Common.{refl}
use Rattle.amqp_resource_session.proofs.Calling.{refused-steady}
use Rattle.amqp_resource_session.proofs.transactional_calls.TxnSessionHandleDischarge.commit_transaction.Goals as goal

pub returns-then-is_some-clause-told : goal.returns-then-is_some-clause-told
returns-then-is_some-clause-told g c = refused-steady _ _ _ _ _ c.refuse.ensures.later refl

pub returns-in-Ok-Err-clause-told : goal.returns-in-Ok-Err-clause-told
returns-in-Ok-Err-clause-told g c = refused-steady _ _ _ _ _ c.refuse-in-Ok-Err.ensures.later c.commit_kept.ensures.fixed

pub returns-in-Err-clause-told : goal.returns-in-Err-clause-told
returns-in-Err-clause-told g c = refused-steady _ _ _ _ _ c.refuse-in-Err.ensures.later c.commit_kept.ensures.fixed
