use Rattle.std.proofs.Common.{rules}
use Rattle.amqp_below_sessions.proofs.NamesKept.{frees-names}
use Rattle.amqp_below_sessions.proofs.plain_session.session_calls.PlainSessionSession.deallocate_link.Goals as goal

pub returns-clause-names : goal.returns-clause-names
returns-clause-names c = frees-names c.args.self.now.links c.free.new.self c.args.output c.free.result (search rules)
