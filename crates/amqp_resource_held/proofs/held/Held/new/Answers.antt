use Rattle.std.proofs.Common.{refl}
use Rattle.amqp_resource_held.proofs.Standing.{stands-new}
use Rattle.amqp_resource_held.proofs.held.Held.new.Goals as goal

pub returns-clause-stands : goal.returns-clause-stands
returns-clause-stands c = stands-new _ c.new.ensures.kept c.new-2.ensures.empty refl
