use Rattle.std.proofs.Common.{◌≡◌, ◌∙◌, ap, sym, refl, Some, None}
use Rattle.amqp_below_layer.proofs.Ordered.{changed-at, names_exact}
use Rattle.amqp_below_sessions.specs.Agreement.{name_in}
use Rattle.amqp_below_sessions.specs.Links.{link_at, output_named}
use Rattle.amqp_below_sessions.proofs.Agreeing.{agree-placed, name-free, named-now}
use Rattle.amqp_below_sessions.proofs.links.Links.place.Goals as goal

pub invariant_of-self-2 : goal.invariant_of-self-2
invariant_of-self-2 c =
    let kept : c.reserve.new.self.slots ≡ c.self.inside.slots.slots = ap (λ s. s.slots) c.reserve.ensures.rest_kept in
    let slots_are : c.self.inside.slots.slots ≡ c.args.self.now.slots = ap (λ v. v.slots) c.self.view_is in
    let free : output_named c.self.inside.slots.slots c.args.name ≡ None = rw slots_are c.requires.unknown in
    agree-placed _ _ _ _ _ _ c.insert_reserved.result c.self.invariant (λ i ne. c.insert_reserved.ensures.updates.others i ne ∙ ap (λ s. link_at s i) kept)
    (record { name = c.args.name; input = None; relay = c.args.relay }) c.in_ok-copy.copy (record { 0 = c.vacant_key.result })
    c.in_ok-copy.ensures.copy (name-free _ _ _ c.self.invariant c.args.name free) refl
    (c.vacant_key.ensures.value ∙ sym c.insert_reserved.ensures.key)
    (sym (ap (λ s. link_at s c.insert_reserved.result) kept) ∙ c.insert_reserved.ensures.was_vacant)
    c.insert_reserved.ensures.updates.changed
    (changed-at names_exact _ _ c.in_ok-copy.copy (Some (record { 0 = c.vacant_key.result })) c.in-Ok.ensures.updates.0) (λ q. refl)

pub returns-clause-named : goal.returns-clause-named
returns-clause-named c =
    let kept : c.reserve.new.self.slots ≡ c.self.inside.slots.slots = ap (λ s. s.slots) c.reserve.ensures.rest_kept in
    let slots_are : c.self.inside.slots.slots ≡ c.args.self.now.slots = ap (λ v. v.slots) c.self.view_is in
    let free : output_named c.self.inside.slots.slots c.args.name ≡ None = rw slots_are c.requires.unknown in
    named-now _ _ _ _ c.insert_reserved.result c.self.invariant (λ i ne. c.insert_reserved.ensures.updates.others i ne ∙ ap (λ s. link_at s i) kept) c.args.name free (ap name_in c.insert_reserved.ensures.updates.changed)
    ∙ ap (λ n. Some n) (c.insert_reserved.ensures.key ∙ ap (λ s. s.vacant_key) c.reserve.ensures.rest_kept ∙ ap (λ v. v.next) c.self.view_is)
