use Rattle.std.proofs.Common.{sym}
use Rattle.amqp_resource_record.proofs.Whole.{work_given}
use Rattle.amqp_resource_record.proofs.Origins.{work_origins, firsts_of_pairs}
use Rattle.amqp_resource_record.proofs.laws.a_record_hands_the_frames_at_its_origins.Goals as goal

pub returns-clause-origins : goal.returns-clause-origins
returns-clause-origins c r l = work_origins r l

pub returns-clause-pairs : goal.returns-clause-pairs
returns-clause-pairs c r l = firsts_of_pairs r l

pub returns-clause-given : goal.returns-clause-given
returns-clause-given c r l = sym (work_given r l)
