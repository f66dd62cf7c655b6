use Rattle.amqp_resource_log.proofs.Words.{LetsGo, Live, ap, frames_kept, kept, length, map, stripped, subst, sym, vec_capacity, ◌++◌, ◌+◌, ◌∙◌, ◌≤◌}
use Rattle.amqp_resource_log.proofs.Counting.{lets_go}
use Rattle.amqp_resource_log.proofs.Live.{agrees_ended, frames_are}
use Rattle.amqp_resource_log.proofs.live_work.LiveWork.take_all.Goals as goal

pub invariant_of-self : goal.invariant_of-self
invariant_of-self g c = agrees_ended c.args.txn_id.now c.self.inside.log c.take_all.new.self c.self.invariant c.take_all.ensures.ended

pub returns-clause-gone : goal.returns-clause-gone
returns-clause-gone g c =
    subst (λ (live : Live). LetsGo live c.take_all.new.self c.args.txn_id.now c.args.looks.now c.take_all.new.looks) c.self.view_is
    (lets_go c.args.txn_id.now c.self.inside.log c.take_all.new.self c.args.looks.now c.take_all.new.looks c.self.invariant c.take_all.ensures.ended c.take_all.ensures.looks)

pub take_all-requires : goal.take_all-requires
take_all-requires g c =
    let same = frames_are c.self.inside.log.homes c.self.inside.log c.self.invariant c.args.txn_id.now ∙ ap (λ (live : Live). frames_kept (kept live c.args.txn_id.now)) c.self.view_is in
    subst (λ fs. length c.args.list.items + length fs ≤ vec_capacity c.args.list) (sym same) c.requires

pub returns-clause-list : goal.returns-clause-list
returns-clause-list g c =
    let same = frames_are c.self.inside.log.homes c.self.inside.log c.self.invariant c.args.txn_id.now ∙ ap (λ (live : Live). frames_kept (kept live c.args.txn_id.now)) c.self.view_is in
    c.take_all.ensures.list ∙ ap (λ fs. c.args.list.items ++ map stripped fs) same
