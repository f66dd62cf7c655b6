use Rattle.std.proofs.Common.{◌∙◌, ap, sym, refl}
use Rattle.std.specs.Option.{option_copied_mut}
use Rattle.amqp_below_sessions.proofs.Agreeing.{agree-written}
use Rattle.amqp_below_sessions.proofs.links.Links.count_transfer.Goals as goal

pub invariant_of-self : goal.invariant_of-self
invariant_of-self c =
    agree-written _ _ _ _ _ _ c.unwrap-link.result.now _ c.self.invariant (sym c.get_mut.ensures.value ∙ ap option_copied_mut c.unwrap-link.ensures) refl refl (λ q. refl) (λ q. refl)
