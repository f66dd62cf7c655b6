use Rattle.amqp_resource_record.proofs.Lives.{others-places, others_live}
use Rattle.amqp_resource_record.proofs.laws.others_leave_an_id_alone.Goals as goal

pub returns-clause-frames : goal.returns-clause-frames
returns-clause-frames c r e t l o = others-places r e t l o

pub returns-clause-live : goal.returns-clause-live
returns-clause-live c r e t l o = others_live r e t l o
