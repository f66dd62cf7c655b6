use Rattle.amqp_resource_log.proofs.Words.{Agrees, Live, ap, dead_count, frame_count, kept, lookup, same_id, subst, sym, ◌∙◌, ◌≤◌}
use Rattle.amqp_resource_log.proofs.Live.{agrees_compacted, paired}
use Rattle.amqp_resource_log.proofs.Counting.{live_kept, same_count}
use Rattle.amqp_resource_log.proofs.live_work.LiveWork.compact.Goals as goal

pub invariant_of-self : goal.invariant_of-self
invariant_of-self g c = subst (λ hs. Agrees hs c.compact.new.self) (sym c.compact.ensures.homes) (agrees_compacted c.self.inside.log.homes c.self.inside.log c.compact.new.self c.compact.ensures.frames c.self.invariant)

pub returns-clause-same : goal.returns-clause-same
returns-clause-same g c =
    let homes = c.self.inside.log.homes in
    let log = c.self.inside.log in
    let after = agrees_compacted homes log c.compact.new.self c.compact.ensures.frames c.self.invariant in
    rw c.compact.ensures.homes (record {
      kept = λ t. ap (paired (lookup (same_id t) homes)) (c.compact.ensures.frames t) ∙ ap (λ (live : Live). kept live t) c.self.view_is;
      frames = same_count homes homes log c.compact.new.self c.self.invariant after c.compact.ensures.live ∙ ap frame_count c.self.view_is;
    })

pub returns-clause-few : goal.returns-clause-few
returns-clause-few g c =
    let homes = c.self.inside.log.homes in
    let after = agrees_compacted homes c.self.inside.log c.compact.new.self c.compact.ensures.frames c.self.invariant in
    rw c.compact.ensures.homes (subst (λ n. dead_count c.compact.new.self ≤ n) (live_kept homes c.compact.new.self after) c.compact.ensures.few)
