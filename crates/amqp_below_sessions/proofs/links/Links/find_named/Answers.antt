use Rattle.std.proofs.Common.{◌≡◌, Some, ◌∙◌, ap, refl, sym, option_copied}
use Rattle.amqp_below_sessions.specs.Links.{link_at}
use Rattle.amqp_below_sessions.specs.Agreement.{name_in}
use Rattle.amqp_below_sessions.proofs.Agreeing.{copied-some, found-name, not_found-name, shown-name}
use Rattle.amqp_below_sessions.proofs.links.Links.find_named.Goals as goal

pub unwrap-requires : goal.unwrap-requires
unwrap-requires c =
    copied-some name_in c.get-2.result _ c.args.name.now refl c.get-2.ensures (c.self.invariant.names.found c.args.name.now c.in-Some.output (sym c.get.ensures.value ∙ sym c.copied.ensures ∙ c.in-Some.is))

pub returns-clause-found : goal.returns-clause-found
returns-clause-found c =
    found-name _ _ _ _ c.self.invariant (ap (λ v. v.slots) c.self.view_is) c.in-Some.output c.unwrap.result.now (sym c.get-2.ensures ∙ ap option_copied c.unwrap.ensures) c.args.name.now (sym c.get.ensures.value ∙ sym c.copied.ensures ∙ c.in-Some.is)

pub returns-in_default-clause-found : goal.returns-in_default-clause-found
returns-in_default-clause-found c =
    not_found-name _ _ _ _ c.self.invariant (ap (λ v. v.slots) c.self.view_is) c.args.name.now (sym c.get.ensures.value ∙ sym c.copied.ensures ∙ c.in_default.is)

pub returns-clause-name : goal.returns-clause-name
returns-clause-name c =
    let there : link_at c.self.inside.slots.slots c.in-Some.output.0 ≡ Some c.unwrap.result.now = sym c.get-2.ensures ∙ ap option_copied c.unwrap.ensures in
    let keyed : name_in (link_at c.self.inside.slots.slots c.in-Some.output.0) ≡ Some c.args.name.now = c.self.invariant.names.found c.args.name.now c.in-Some.output (sym c.get.ensures.value ∙ sym c.copied.ensures ∙ c.in-Some.is) in
    shown-name _ _ _ there keyed
