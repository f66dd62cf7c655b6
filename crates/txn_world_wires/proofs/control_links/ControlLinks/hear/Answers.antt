use Rattle.std.proofs.Common.{◌<◌, ◌≡◌, ℕ, Option, Some, None, ap, length, refl, rules, subst, sym, ◌∙◌}
use Rattle.std.specs.Prelude.{slice_get, slice_set}
use Rattle.txn_world_wires.specs.declared.control_links.Request.{Request}
use Rattle.txn_world_wires.specs.Known.{Asks}
use Rattle.txn_world_wires.specs.Links.{AreOpen}
use Rattle.txn_world_wires.proofs.Opening.{asked_length, asked_says, open_heard, open_link, own_end, read_at, seen, seen_with}
use Rattle.txn_world_wires.proofs.control_links.ControlLinks.hear.Goals as goal

pub index_mut-requires-2 : goal.index_mut-requires-2
index_mut-requires-2 c =
    let requests = c.self.inside.requests.items in
    let n : c.args.number < length requests = subst (λ (k : ℕ). c.args.number < k) (asked_length requests) (subst (λ (a : Asks). c.args.number < length a.asked) (sym c.self.view_is) c.requires) in
    let at : slice_get requests c.args.number ≡ Some (Some c.in-Some.request) = read_at requests c.args.number c.index_mut.result.now n c.index_mut.ensures.value ∙ ap (λ (o : Option Request). Some o) (sym c.take.ensures.value ∙ c.in-Some.is) in
    let l : c.in-Some.request.link < length c.self.inside.ends.items = open_link c.self.inside.ends.items c.in-Some.request (c.self.invariant.each c.args.number c.in-Some.request at) in
    search (rules, l)

pub hear-requires-clause-quiet : goal.hear-requires-clause-quiet
hear-requires-clause-quiet c =
    let requests = c.self.inside.requests.items in
    let n : c.args.number < length requests = subst (λ (k : ℕ). c.args.number < k) (asked_length requests) (subst (λ (a : Asks). c.args.number < length a.asked) (sym c.self.view_is) c.requires) in
    let at : slice_get requests c.args.number ≡ Some (Some c.in-Some.request) = read_at requests c.args.number c.index_mut.result.now n c.index_mut.ensures.value ∙ ap (λ (o : Option Request). Some o) (sym c.take.ensures.value ∙ c.in-Some.is) in
    let l = open_link c.self.inside.ends.items c.in-Some.request (c.self.invariant.each c.args.number c.in-Some.request at) in
    c.self.invariant.quiet c.in-Some.request.link c.index_mut-2.result.now (read_at c.self.inside.ends.items c.in-Some.request.link c.index_mut-2.result.now l c.index_mut-2.ensures.value)

pub hear-requires-clause-awaited : goal.hear-requires-clause-awaited
hear-requires-clause-awaited c =
    let requests = c.self.inside.requests.items in
    let n : c.args.number < length requests = subst (λ (k : ℕ). c.args.number < k) (asked_length requests) (subst (λ (a : Asks). c.args.number < length a.asked) (sym c.self.view_is) c.requires) in
    let at : slice_get requests c.args.number ≡ Some (Some c.in-Some.request) = read_at requests c.args.number c.index_mut.result.now n c.index_mut.ensures.value ∙ ap (λ (o : Option Request). Some o) (sym c.take.ensures.value ∙ c.in-Some.is) in
    let o = c.self.invariant.each c.args.number c.in-Some.request at in
    own_end c.self.inside.ends.items c.in-Some.request c.index_mut-2.result.now o
    (read_at c.self.inside.ends.items c.in-Some.request.link c.index_mut-2.result.now (open_link c.self.inside.ends.items c.in-Some.request o) c.index_mut-2.ensures.value)

pub invariant_of-self : goal.invariant_of-self
invariant_of-self c =
    let ends = c.self.inside.ends.items in
    let requests = c.self.inside.requests.items in
    let r = c.in-Some.request in
    let n : c.args.number < length requests = subst (λ (k : ℕ). c.args.number < k) (asked_length requests) (subst (λ (a : Asks). c.args.number < length a.asked) (sym c.self.view_is) c.requires) in
    let at : slice_get requests c.args.number ≡ Some (Some r) = read_at requests c.args.number c.index_mut.result.now n c.index_mut.ensures.value ∙ ap (λ (o : Option Request). Some o) (sym c.take.ensures.value ∙ c.in-Some.is) in
    let o = c.self.invariant.each c.args.number r at in
    let g = read_at ends r.link c.index_mut-2.result.now (open_link ends r o) c.index_mut-2.ensures.value in
    subst (λ (one : Option Request). AreOpen (slice_set ends r.link c.hear.new.end) (slice_set requests c.args.number one)) (sym c.take.ensures.after)
    (open_heard ends requests c.index_mut-2.result.now c.hear.new.end c.args.number r c.self.invariant at g (own_end ends r c.index_mut-2.result.now o g) c.hear.ensures.heard)

pub returns-clause-ok : goal.returns-clause-ok
returns-clause-ok c =
    let ends = c.self.inside.ends.items in
    let requests = c.self.inside.requests.items in
    let r = c.in-Some.request in
    let n : c.args.number < length requests = subst (λ (k : ℕ). c.args.number < k) (asked_length requests) (subst (λ (a : Asks). c.args.number < length a.asked) (sym c.self.view_is) c.requires) in
    let at : slice_get requests c.args.number ≡ Some (Some r) = read_at requests c.args.number c.index_mut.result.now n c.index_mut.ensures.value ∙ ap (λ (o : Option Request). Some o) (sym c.take.ensures.value ∙ c.in-Some.is) in
    let found = read_at requests c.args.number c.index.result.now n c.index.ensures in (
      ap (λ (one : Option Request). seen (slice_set ends r.link c.hear.new.end) (slice_set requests c.args.number one)) c.take.ensures.after
          ∙ seen_with ends requests c.args.self.now r.link c.hear.new.end c.args.number None None c.self.view_is refl,
      c.hear.ensures.hearing ∙ asked_says requests c.args.number c.index.result.now r c.args.asked c.args.state c.in_ok-answer.answer at found (search rules) c.in_ok-answer.ensures,
    )
