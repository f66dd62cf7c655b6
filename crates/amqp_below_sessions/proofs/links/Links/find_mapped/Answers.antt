use Rattle.std.proofs.Common.{◌≡◌, Some, ◌∙◌, ap, refl, sym, option_copied}
use Rattle.amqp_below_sessions.specs.Links.{link_at}
use Rattle.amqp_below_sessions.specs.Agreement.{input_in}
use Rattle.amqp_below_sessions.proofs.Agreeing.{copied-some, found-input, not_found-input}
use Rattle.amqp_below_sessions.proofs.links.Links.find_mapped.Goals as goal

pub unwrap-requires : goal.unwrap-requires
unwrap-requires c =
    copied-some input_in c.get-2.result _ c.args.input refl c.get-2.ensures (c.self.invariant.inputs.found c.args.input c.in-Some.output (sym c.get.ensures.value ∙ sym c.copied.ensures ∙ c.in-Some.is))

pub returns-clause-found : goal.returns-clause-found
returns-clause-found c =
    found-input _ _ _ _ c.self.invariant (ap (λ v. v.slots) c.self.view_is) c.in-Some.output c.unwrap.result.now (sym c.get-2.ensures ∙ ap option_copied c.unwrap.ensures) c.args.input (sym c.get.ensures.value ∙ sym c.copied.ensures ∙ c.in-Some.is)

pub returns-in_default-clause-found : goal.returns-in_default-clause-found
returns-in_default-clause-found c =
    not_found-input _ _ _ _ c.self.invariant (ap (λ v. v.slots) c.self.view_is) c.args.input (sym c.get.ensures.value ∙ sym c.copied.ensures ∙ c.in_default.is)

pub returns-clause-input : goal.returns-clause-input
returns-clause-input c =
    let there : link_at c.self.inside.slots.slots c.in-Some.output.0 ≡ Some c.unwrap.result.now = sym c.get-2.ensures ∙ ap option_copied c.unwrap.ensures in
    let keyed : input_in (link_at c.self.inside.slots.slots c.in-Some.output.0) ≡ Some c.args.input = c.self.invariant.inputs.found c.args.input c.in-Some.output (sym c.get.ensures.value ∙ sym c.copied.ensures ∙ c.in-Some.is) in
    sym (ap input_in there) ∙ keyed
