use Rattle.amqp_resource_record.proofs.Lives.{hands-own, length-places}
use Rattle.amqp_resource_record.proofs.Origins.{rejected-adds_nothing}
use Rattle.amqp_resource_record.proofs.laws.a_commit_hands_the_frames_of_its_own_id.Goals as goal

pub returns-clause-own : goal.returns-clause-own
returns-clause-own c r s t h = hands-own r s t h

pub returns-clause-places : goal.returns-clause-places
returns-clause-places c r t = length-places r t

pub returns-clause-rejected : goal.returns-clause-rejected
returns-clause-rejected c r e h = rejected-adds_nothing r e h
