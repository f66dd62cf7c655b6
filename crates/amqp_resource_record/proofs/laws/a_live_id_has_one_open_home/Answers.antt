use Rattle.amqp_resource_record.proofs.Homes.{declared_home, live_home}
use Rattle.amqp_resource_record.proofs.Lives.{held_home}
use Rattle.amqp_resource_record.proofs.laws.a_live_id_has_one_open_home.Goals as goal

pub returns-clause-one : goal.returns-clause-one
returns-clause-one c r t k l = held_home r t k l

pub returns-clause-open : goal.returns-clause-open
returns-clause-open c r t l = live_home r t l

pub returns-clause-declared : goal.returns-clause-declared
returns-clause-declared c r t g l = declared_home r t g l
