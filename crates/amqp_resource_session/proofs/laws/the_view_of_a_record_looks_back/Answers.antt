use Rattle.amqp_resource_held.proofs.Views.{frames-record, held-record, live-record}
use Rattle.amqp_resource_session.proofs.Handed.{hands-record}
use Rattle.amqp_resource_session.proofs.laws.the_view_of_a_record_looks_back.Goals as goal

pub returns-clause-live : goal.returns-clause-live
returns-clause-live c r t = live-record r t

pub returns-clause-held : goal.returns-clause-held
returns-clause-held c r k t = held-record r k t

pub returns-clause-frames : goal.returns-clause-frames
returns-clause-frames c r t l = frames-record r t l

pub returns-clause-hands : goal.returns-clause-hands
returns-clause-hands c r s = hands-record r s
