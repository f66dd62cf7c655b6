use Rattle.std.proofs.Common.{rules, refl}
use Rattle.amqp_below_sessions.proofs.Leaving.{opens-leaves}
use Rattle.amqp_below_sessions.proofs.plain_session.PlainSessionLayerBelow.on_control_attach.Goals as goal

pub returns-in-Ok-clause-gives : goal.returns-in-Ok-clause-gives
returns-in-Ok-clause-gives c = record {
  fault = search rules;
  placed = search rules;
  rest = search rules;
  given = search rules;
  leaves = opens-leaves c.args.self.now (record c.args.self.now { links = c.place_control_link.new.links }) c.args.attach.now _ refl c.in-Ok.ensures.ok;
}
