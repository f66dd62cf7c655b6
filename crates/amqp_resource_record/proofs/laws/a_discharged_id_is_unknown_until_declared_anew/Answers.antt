use Rattle.std.proofs.Common.{◌∷◌, ◌++◌}
use Rattle.amqp_resource_record.proofs.Lives.{discharged_dead, dead_rejected}
use Rattle.amqp_resource_record.proofs.laws.a_discharged_id_is_unknown_until_declared_anew.Goals as goal

pub returns-clause-dead : goal.returns-clause-dead
returns-clause-dead c before later e t h n = discharged_dead before later e t h n

pub returns-clause-rejected : goal.returns-clause-rejected
returns-clause-rejected c before later e t k payload drawn reply h n o m a =
    dead_rejected (before ++ e ∷ later) k payload t drawn reply (discharged_dead before later e t h n) o m a
