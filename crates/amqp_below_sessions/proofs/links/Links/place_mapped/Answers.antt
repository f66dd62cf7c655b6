use Rattle.std.proofs.Common.{◌≡◌, ◌∙◌, ap, sym, refl, Some, None}
use Rattle.std.specs.BTreeMap.{is_at}
use Rattle.std.specs.Map.{lookup}
use Rattle.std.specs.Ordering.{nat_cmp}
use Rattle.std.specs.Cmp.Lexicographic.{slice_cmp}
use Rattle.amqp_below_layer.proofs.Ordered.{changed-at, names_exact, put-back}
use Rattle.amqp_below_sessions.specs.Agreement.{input_in, name_in}
use Rattle.amqp_below_sessions.specs.Links.{link_at, output_mapped, output_named}
use Rattle.amqp_below_sessions.proofs.Agreeing.{agree-placed_mapped, agree-same, input-free, inputs_exact, mapped-now, name-free, named-now}
use Rattle.amqp_below_sessions.proofs.links.Links.place_mapped.Goals as goal

pub invariant_of-self-in_default-insert : goal.invariant_of-self-in_default-insert
invariant_of-self-in_default-insert c =
    let slots_are : c.self.inside.slots.slots ≡ c.args.self.now.slots = ap (λ v. v.slots) c.self.view_is in
    let unmapped : output_mapped c.self.inside.slots.slots c.args.input ≡ None = rw slots_are c.requires.unmapped in
    agree-same _ _ _ _ _ _ c.self.invariant (ap (λ s. s.slots) c.reserve.ensures.rest_kept)
    (λ q. ap (λ es. lookup (is_at (slice_cmp nat_cmp q)) es) c.in_default-insert.ensures.err)
    (put-back inputs_exact _ _ _ c.args.input (Some (record { 0 = c.vacant_key.result })) None (sym (input-free _ _ _ c.self.invariant c.args.input unmapped))
    c.in-Ok.ensures.updates.0 c.remove.ensures.updates.0)

pub invariant_of-self-2 : goal.invariant_of-self-2
invariant_of-self-2 c =
    let kept : c.reserve.new.self.slots ≡ c.self.inside.slots.slots = ap (λ s. s.slots) c.reserve.ensures.rest_kept in
    let slots_are : c.self.inside.slots.slots ≡ c.args.self.now.slots = ap (λ v. v.slots) c.self.view_is in
    let free : output_named c.self.inside.slots.slots c.args.name ≡ None = rw slots_are c.requires.unknown in
    let unmapped : output_mapped c.self.inside.slots.slots c.args.input ≡ None = rw slots_are c.requires.unmapped in
    agree-placed_mapped _ _ _ _ _ _ c.insert_reserved.result c.self.invariant (λ i ne. c.insert_reserved.ensures.updates.others i ne ∙ ap (λ s. link_at s i) kept)
    (record { name = c.args.name; input = Some c.args.input; relay = c.args.relay }) c.in_ok-copy.copy c.args.input (record { 0 = c.vacant_key.result })
    c.in_ok-copy.ensures.copy (name-free _ _ _ c.self.invariant c.args.name free) refl (input-free _ _ _ c.self.invariant c.args.input unmapped)
    (c.vacant_key.ensures.value ∙ sym c.insert_reserved.ensures.key)
    (sym (ap (λ s. link_at s c.insert_reserved.result) kept) ∙ c.insert_reserved.ensures.was_vacant)
    c.insert_reserved.ensures.updates.changed
    (changed-at names_exact _ _ c.in_ok-copy.copy (Some (record { 0 = c.vacant_key.result })) c.in-Ok-insert.ensures.updates.0)
    (changed-at inputs_exact _ _ c.args.input (Some (record { 0 = c.vacant_key.result })) c.in-Ok.ensures.updates.0)

pub returns-clause-named : goal.returns-clause-named
returns-clause-named c =
    let kept : c.reserve.new.self.slots ≡ c.self.inside.slots.slots = ap (λ s. s.slots) c.reserve.ensures.rest_kept in
    let slots_are : c.self.inside.slots.slots ≡ c.args.self.now.slots = ap (λ v. v.slots) c.self.view_is in
    let free : output_named c.self.inside.slots.slots c.args.name ≡ None = rw slots_are c.requires.unknown in
    named-now _ _ _ _ c.insert_reserved.result c.self.invariant (λ i ne. c.insert_reserved.ensures.updates.others i ne ∙ ap (λ s. link_at s i) kept) c.args.name free (ap name_in c.insert_reserved.ensures.updates.changed)
    ∙ ap (λ n. Some n) (c.insert_reserved.ensures.key ∙ ap (λ s. s.vacant_key) c.reserve.ensures.rest_kept ∙ ap (λ v. v.next) c.self.view_is)

pub returns-clause-mapped : goal.returns-clause-mapped
returns-clause-mapped c =
    let kept : c.reserve.new.self.slots ≡ c.self.inside.slots.slots = ap (λ s. s.slots) c.reserve.ensures.rest_kept in
    let slots_are : c.self.inside.slots.slots ≡ c.args.self.now.slots = ap (λ v. v.slots) c.self.view_is in
    let free : output_mapped c.self.inside.slots.slots c.args.input ≡ None = rw slots_are c.requires.unmapped in
    mapped-now _ _ _ _ c.insert_reserved.result c.self.invariant (λ i ne. c.insert_reserved.ensures.updates.others i ne ∙ ap (λ s. link_at s i) kept) c.args.input free (ap input_in c.insert_reserved.ensures.updates.changed)
    ∙ ap (λ n. Some n) (c.insert_reserved.ensures.key ∙ ap (λ s. s.vacant_key) c.reserve.ensures.rest_kept ∙ ap (λ v. v.next) c.self.view_is)
