use Rattle.std.proofs.Common.{◌∙◌}
use Rattle.amqp_resource_session.specs.Session.{held_of}
use Rattle.amqp_resource_held.proofs.Standing.{kept_live}
use Rattle.amqp_resource_session.proofs.session.TxnSession.is_live.Goals as goal

pub returns-clause-as_record : goal.returns-clause-as_record
returns-clause-as_record g c r s = c.is_live.ensures ∙ kept_live (held_of c.args.self.now) r c.args.txn_id.now s
