use Rattle.amqp_resource_log.proofs.Words.{ap, frame_count, ◌∙◌}
use Rattle.amqp_resource_log.proofs.Counting.{live_kept}
use Rattle.amqp_resource_log.proofs.live_work.LiveWork.frame_count.Goals as goal

pub returns : goal.returns
returns c = c.live.ensures ∙ live_kept c.self.inside.log.homes c.self.inside.log c.self.invariant ∙ ap frame_count c.self.view_is
