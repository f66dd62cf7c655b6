use Rattle.amqp_below_sessions.specs.Links.{waiting_link}
use Rattle.amqp_below_sessions.proofs.NamesKept.{placed-names}
use Rattle.amqp_below_sessions.proofs.plain_session.session_calls.PlainSessionSession.allocate_link.Goals as goal

pub returns-in-Ok-clause-names : goal.returns-in-Ok-clause-names
returns-in-Ok-clause-names c =
    placed-names c.args.self.now.links c.place_link.new.links (waiting_link c.args.name c.args.relay)
    c.in-Ok.output c.in-Ok.ensures.ok.output_is c.in-Ok.ensures.ok.placed
