use Rattle.std.proofs.Common.{◌≡◌, ◌∙◌, ap, sym, refl, Some, None}
use Rattle.std.specs.Option.{option_copied_mut}
use Rattle.amqp_below_layer.proofs.Ordered.{changed-at}
use Rattle.amqp_below_sessions.specs.Links.{link_at, output_mapped, output_named}
use Rattle.amqp_below_sessions.proofs.Agreeing.{agree-mapped, input-free, inputs_exact, waits-unmapped, written-mapped, written-named}
use Rattle.amqp_below_sessions.proofs.links.Links.attach.Goals as goal

pub invariant_of-self-2 : goal.invariant_of-self-2
invariant_of-self-2 c =
    let slots_are : c.self.inside.slots.slots ≡ c.args.self.now.slots = ap (λ v. v.slots) c.self.view_is in
    let there : link_at c.self.inside.slots.slots c.args.output.0 ≡ Some c.unwrap-link.result.now = sym c.get_mut.ensures.value ∙ ap option_copied_mut c.unwrap-link.ensures in
    let here : link_at c.args.self.now.slots c.args.output.0 ≡ Some c.unwrap-link.result.now = rw (← slots_are) there in
    let free : output_mapped c.self.inside.slots.slots c.args.input ≡ None = rw slots_are c.requires.unmapped in
    agree-mapped _ _ _ _ _ _ c.unwrap-link.result.now _ c.self.invariant there c.args.input c.args.output (input-free _ _ _ c.self.invariant c.args.input free) refl (waits-unmapped _ _ here c.requires.waiting) refl refl (λ q. refl)
    (changed-at inputs_exact _ _ c.args.input (Some c.args.output) c.in-Ok.ensures.updates.0)

pub returns-clause-named : goal.returns-clause-named
returns-clause-named c =
    let slots_are : c.self.inside.slots.slots ≡ c.args.self.now.slots = ap (λ v. v.slots) c.self.view_is in
    let there : link_at c.self.inside.slots.slots c.args.output.0 ≡ Some c.unwrap-link.result.now = sym c.get_mut.ensures.value ∙ ap option_copied_mut c.unwrap-link.ensures in
    λ name. written-named c.self.inside.slots.slots c.args.output.0 c.unwrap-link.result.now _ there refl name ∙ ap (λ s. output_named s name) slots_are

pub returns-clause-mapped : goal.returns-clause-mapped
returns-clause-mapped c =
    let slots_are : c.self.inside.slots.slots ≡ c.args.self.now.slots = ap (λ v. v.slots) c.self.view_is in
    let there : link_at c.self.inside.slots.slots c.args.output.0 ≡ Some c.unwrap-link.result.now = sym c.get_mut.ensures.value ∙ ap option_copied_mut c.unwrap-link.ensures in
    let free : output_mapped c.self.inside.slots.slots c.args.input ≡ None = rw slots_are c.requires.unmapped in
    written-mapped _ _ _ c.args.output.0 c.unwrap-link.result.now _ c.self.invariant there c.args.input free refl
