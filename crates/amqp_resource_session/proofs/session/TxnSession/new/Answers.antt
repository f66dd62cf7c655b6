use Rattle.std.proofs.Common.{[], arith}
use Rattle.amqp_resource_held.proofs.Fitting.{fits-stands}
use Rattle.amqp_resource_session.proofs.session.TxnSession.new.Goals as goal

pub returns-clause-fits : goal.returns-clause-fits
returns-clause-fits g c = (fits-stands c.new.result [] c.new.ensures.stands, omega (arith, c.new.ensures.owed))
