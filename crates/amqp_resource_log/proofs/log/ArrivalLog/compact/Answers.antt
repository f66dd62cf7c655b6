use Rattle.amqp_resource_log.proofs.Words.{ap, arith, closed_up, cond, dead_count, frames_of, live_count, lt-ltb, sym, ◌<◌, ◌∙◌, ◌≡◌}
use Rattle.amqp_resource_log.proofs.Closing.{live_alone}
use Rattle.amqp_resource_log.proofs.Frames.{live_stay, live-closed}
use Rattle.amqp_resource_log.proofs.log.ArrivalLog.compact.Goals as goal

pub returns-then-live-dead-clause-log : goal.returns-then-live-dead-clause-log
returns-then-live-dead-clause-log g c =
    let more : live_count c.args.self.now < dead_count c.args.self.now = omega (arith, c.live.ensures, c.dead.ensures, c.if-live-dead.true) in
    c.close_up.ensures.log ∙ sym (ap (λ b. cond b (closed_up c.args.self.now) c.args.self.now) (lt-ltb (live_count c.args.self.now) (dead_count c.args.self.now) more))

pub returns-then-live-dead-clause-frames : goal.returns-then-live-dead-clause-frames
returns-then-live-dead-clause-frames g c t = ap (λ log. frames_of log t) c.close_up.ensures.log ∙ live_stay t c.args.self.now.cells

pub returns-then-live-dead-clause-live : goal.returns-then-live-dead-clause-live
returns-then-live-dead-clause-live g c = ap live_count c.close_up.ensures.log ∙ live-closed c.args.self.now

pub returns-then-live-dead-clause-few : goal.returns-then-live-dead-clause-few
returns-then-live-dead-clause-few g c =
    let none : dead_count c.close_up.new.self ≡ 0 = ap dead_count c.close_up.ensures.log ∙ sym (live_alone c.args.self.now.cells) in
    omega arith

pub returns-then-live-dead-clause-looks : goal.returns-then-live-dead-clause-looks
returns-then-live-dead-clause-looks g c =
    let none : dead_count c.close_up.new.self ≡ 0 = ap dead_count c.close_up.ensures.log ∙ sym (live_alone c.args.self.now.cells) in
    omega (arith, c.close_up.ensures.looks, c.live.ensures, c.dead.ensures, c.if-live-dead.true)
