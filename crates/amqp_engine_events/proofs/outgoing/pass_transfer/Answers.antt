use Rattle.std.proofs.Common.{rules}
use Rattle.amqp_engine_events.proofs.outgoing.pass_transfer.Goals as goal

-- the transfer is as the session's refusal left it
pub returns-in_err-on_outgoing_transfer-clause-passes : goal.returns-in_err-on_outgoing_transfer-clause-passes
returns-in_err-on_outgoing_transfer-clause-passes g c = (c.on_outgoing_transfer.new.transfer, search rules)
