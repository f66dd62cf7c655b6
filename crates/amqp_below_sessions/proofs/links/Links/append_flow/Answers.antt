use Rattle.std.proofs.Common.{List, Option, set, ◌≡◌, ◌∙◌, ap, sym, refl, Some}
use Rattle.std.specs.Option.{option_copied_mut}
use Rattle.amqp_txn_types.specs.declared.performatives.LinkFlow.{LinkFlow}
use Rattle.amqp_below_sessions.specs.declared.links.Link.{Link}
use Rattle.amqp_below_sessions.specs.contracts.links.Links.{the_view}
use Rattle.amqp_below_sessions.specs.Links.{link_at}
use Rattle.amqp_below_sessions.proofs.Agreeing.{agree-written, written-same}
use Rattle.amqp_below_sessions.proofs.Answered.{on_err-then}
use Rattle.amqp_below_sessions.proofs.links.Links.append_flow.Goals as goal

pub invariant_of-self : goal.invariant_of-self
invariant_of-self c =
    agree-written _ _ _ _ _ _ c.unwrap-link.result.now _ c.self.invariant (sym c.get_mut.ensures.value ∙ ap option_copied_mut c.unwrap-link.ensures) refl refl (λ q. refl) (λ q. refl)

pub returns-clause-err : goal.returns-clause-err
returns-clause-err c =
    let slots = c.self.inside.slots.slots in
    let at = c.args.output.0 in
    let link = c.unwrap-link.result.now in
    let there : link_at slots at ≡ Some link = sym c.get_mut.ensures.value ∙ ap option_copied_mut c.unwrap-link.ensures in
    let written = λ (flows : List LinkFlow). set slots at (Some (record link { relay = record link.relay { flows = flows } })) in
    let view = λ (now : List (Option Link)). the_view (record c.self.inside { slots = record c.self.inside.slots { slots = now } }) in
    on_err-then {Q = view (written c.append.new.self) ≡ c.args.self.now} _ c.append.ensures.err
    (λ same. let as_was : written c.append.new.self ≡ slots = ap written same ∙ written-same slots at link there in ap view as_was ∙ c.self.view_is)
