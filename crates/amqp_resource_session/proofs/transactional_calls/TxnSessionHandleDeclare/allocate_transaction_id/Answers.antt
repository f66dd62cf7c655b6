use Rattle.std.proofs.Common.{refl}
use Rattle.amqp_resource_session.proofs.Calling.{refused-checks}
use Rattle.amqp_resource_session.proofs.transactional_calls.TxnSessionHandleDeclare.allocate_transaction_id.Goals as goal

pub returns-then-is_some-clause-told : goal.returns-then-is_some-clause-told
returns-then-is_some-clause-told g c = rw c.refuse.ensures.answer (refused-checks _ _ _ _ _ _ c.refuse.ensures.later refl c.refuse.ensures.counted)

pub returns-in-Err-clause-told : goal.returns-in-Err-clause-told
returns-in-Err-clause-told g c = rw c.refuse-in-Err.ensures.answer (refused-checks _ _ _ _ _ _ c.refuse-in-Err.ensures.later refl c.refuse-in-Err.ensures.counted)
