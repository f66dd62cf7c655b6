use Rattle.txn_broker_table.proofs.Words.{Cell, EndFits, IfSome, None, Prepared, Some, [], ap, arith, came, first_with, length, marks_of, refl, slice_set, subst, sym, Linked, ◌+◌, ◌++◌, ◌<◌, ◌∙◌, ◌∷◌, ◌≡◌}
use Rattle.std.proofs.lemmas.Option.{slice_get_read}
use Rattle.std.proofs.lemmas.List.{map_push, with_items_is}
use Rattle.txn_broker_table.proofs.Ending.{last_within}
use Rattle.txn_broker_table.proofs.Pushing.{linked_push}
use Rattle.txn_broker_table.proofs.table.MessageTable.push.Goals as goal

pub extend_queue-ends-requires-clause-within : goal.extend_queue-ends-requires-clause-within
extend_queue-ends-requires-clause-within c =
    let cells = c.self.inside.cells.items in
    let ends = c.self.inside.ends in
    let q = c.args.queue in
    let o = c.index.result.now in
    let within : q < ends.len = omega (arith, c.requires.queue, ap (λ v. v.queues) c.self.view_is, ends.ok.0) in
    let is = slice_get_read ends.items ends.len q o ends.ok.0 within c.index.ensures in
    subst (λ cs. IfSome o (λ e. e.last < length cs)) (sym c.as_mut_slice.ensures.value)
    (last_within cells q o (c.self.invariant.spans q o is))

pub invariant_of-self : goal.invariant_of-self
invariant_of-self c =
    let cells = c.self.inside.cells.items in
    let new = c.extend_queue-ends.new.cells in
    let ends = c.self.inside.ends in
    let q = c.args.queue in
    let o = c.index.result.now in
    let e = c.extend_queue-ends.result in
    let said = c.extend_queue-ends.ensures in
    let same : c.as_mut_slice.result.now ≡ cells = c.as_mut_slice.ensures.value in
    let within : q < ends.len = omega (arith, c.requires.queue, ap (λ v. v.queues) c.self.view_is, ends.ok.0) in
    let is = slice_get_read ends.items ends.len q o ends.ok.0 within c.index.ensures in
    let prepared : Prepared cells q new =
    subst (λ cs. Prepared cs q new) same (said.prepared q (subst (λ cs. EndFits (marks_of cs) q o) (sym same) (c.self.invariant.spans q o is))) in
    let long : length new ≡ c.self.inside.cells.len = omega (arith, c.extend_queue-ends.auto.cells, c.as_mut_slice.ensures.len) in
    let number : c.len-number.result ≡ length cells = omega (arith, c.len-number.ensures, c.self.inside.cells.ok.0) in
    let cell : Cell = record { mark = came c.args.place q; skip = c.len-number.result + 1; next = None } in
    subst (λ cs. Linked cs (slice_set ends.items q (Some e)))
    (sym (c.push_reserved.ensures.items ∙ ap (λ cs. cs ++ cell ∷ []) (with_items_is c.self.inside.cells new long)))
    (subst (λ last. Linked (new ++ cell ∷ []) (slice_set ends.items q (Some (record { first = e.first; last = last }))))
    (sym (said.last ∙ ap (λ cs. length cs) same))
    (linked_push cells new ends.items c.args.place q o cell e.first c.self.invariant is prepared refl (ap (λ n. n + 1) number) refl
    (subst (λ cs. e.first ≡ first_with (marks_of cs) o) same said.first)))

pub returns-clause-marks : goal.returns-clause-marks
returns-clause-marks c =
    let cells = c.self.inside.cells.items in
    let new = c.extend_queue-ends.new.cells in
    let ends = c.self.inside.ends in
    let q = c.args.queue in
    let o = c.index.result.now in
    let said = c.extend_queue-ends.ensures in
    let same : c.as_mut_slice.result.now ≡ cells = c.as_mut_slice.ensures.value in
    let within : q < ends.len = omega (arith, c.requires.queue, ap (λ v. v.queues) c.self.view_is, ends.ok.0) in
    let is = slice_get_read ends.items ends.len q o ends.ok.0 within c.index.ensures in
    let prepared : Prepared cells q new =
    subst (λ cs. Prepared cs q new) same (said.prepared q (subst (λ cs. EndFits (marks_of cs) q o) (sym same) (c.self.invariant.spans q o is))) in
    let long : length new ≡ c.self.inside.cells.len = omega (arith, c.extend_queue-ends.auto.cells, c.as_mut_slice.ensures.len) in
    let cell : Cell = record { mark = came c.args.place q; skip = c.len-number.result + 1; next = None } in
    ap (λ cs. marks_of cs) (c.push_reserved.ensures.items ∙ ap (λ cs. cs ++ cell ∷ []) (with_items_is c.self.inside.cells new long))
    ∙ map_push (λ (x : Cell). x.mark) new cell
    ∙ ap (λ ms. ms ++ came c.args.place q ∷ []) (prepared.relinked.marks ∙ ap (λ v. v.marks) c.self.view_is)
