use Rattle.std.proofs.Common.{◌≡◌, ◌∙◌, None, ap, sym}
use Rattle.amqp_below_layer.proofs.Ordered.{changed-at, names_exact}
use Rattle.amqp_below_sessions.specs.Agreement.{input_in, name_in}
use Rattle.amqp_below_sessions.specs.Links.{link_at}
use Rattle.amqp_below_sessions.proofs.Agreeing.{agree-freed, unmapped-now, unnamed-now}
use Rattle.amqp_below_sessions.proofs.links.Links.free.Goals as goal

pub invariant_of-self-2 : goal.invariant_of-self-2
invariant_of-self-2 c =
    agree-freed _ _ _ _ _ _ c.args.output.0 c.self.invariant c.try_remove.ensures.updates.others c.in-Some.link (sym c.in-Some.ensures.value) c.try_remove.ensures.updates.changed
    (changed-at names_exact _ _ c.in-Some.link.name None c.remove.ensures.updates.0) c.forget.ensures

pub returns-clause-unnamed : goal.returns-clause-unnamed
returns-clause-unnamed c =
    let slots_are : c.self.inside.slots.slots ≡ c.args.self.now.slots = ap (λ v. v.slots) c.self.view_is in
    λ name had. unnamed-now _ _ _ _ c.args.output.0 c.self.invariant c.try_remove.ensures.updates.others name (ap (λ s. name_in (link_at s c.args.output.0)) slots_are ∙ had) c.try_remove.ensures.updates.changed

pub returns-clause-unmapped : goal.returns-clause-unmapped
returns-clause-unmapped c =
    let slots_are : c.self.inside.slots.slots ≡ c.args.self.now.slots = ap (λ v. v.slots) c.self.view_is in
    λ input had. unmapped-now _ _ _ _ c.args.output.0 c.self.invariant c.try_remove.ensures.updates.others input (ap (λ s. input_in (link_at s c.args.output.0)) slots_are ∙ had) c.try_remove.ensures.updates.changed
