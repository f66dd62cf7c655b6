use Rattle.amqp_resource_log.proofs.Words.{Live, None, TransactionId, kept, subst, sym, ◌≡◌}
use Rattle.amqp_resource_log.proofs.Live.{none_kept, no_homes}
use Rattle.amqp_resource_log.proofs.live_work.LiveWork.is_empty.Goals as goal

pub returns : goal.returns
returns c =
    let homes = c.self.inside.log.homes in
    let log = c.self.inside.log in (
      λ x. subst (λ (live : Live). (t : TransactionId) → kept live t ≡ None) c.self.view_is (none_kept homes log (c.is_empty.ensures.0 x)),
      λ none. c.is_empty.ensures.1 (no_homes homes log (subst (λ (live : Live). (t : TransactionId) → kept live t ≡ None) (sym c.self.view_is) none)),
    )
