use Rattle.std.proofs.Common.{rules}
use Rattle.txn_broker_table.proofs.Words.{LeadsOn, Linked, Relinked, Some, ap, arith, false, get_or, length, marks_of, no_cell, queue_at, slice_set, subst, sym, ℕ, ◌<◌, ◌∙◌, ◌≡◌}
use Rattle.std.proofs.lemmas.Option.{slice_get_read}
use Rattle.std.proofs.lemmas.List.{with_items_is}
use Rattle.txn_broker_table.proofs.Reading.{cell_here}
use Rattle.txn_broker_table.proofs.Ending.{end_here, first_within, linked_later}
use Rattle.txn_broker_table.proofs.Linkage.{linked_relinked, reached_within, relinked_then}
use Rattle.txn_broker_table.proofs.table.MessageTable.shorten.Goals as goal

pub offset_bounds-cells-ends : goal.offset_bounds-cells-ends
offset_bounds-cells-ends c =
    let cells = c.self.inside.cells.items in
    let q = c.args.queue in
    let ends = c.self.inside.ends in
    let within : q < ends.len = omega (arith, c.requires.queue, ap (λ v. v.queues) c.self.view_is, ends.ok.0) in
    let spans = end_here cells ends.items ends.len q c.index.result.now (Some c.in-Some.ends) c.self.invariant ends.ok.0 within c.index.ensures c.in-Some.is in
    let below : c.in-Some.ends.first < length c.as_mut_slice-cells.result.now =
    subst (λ cs. c.in-Some.ends.first < length cs) (sym c.as_mut_slice-cells.ensures.value) (first_within cells q c.in-Some.ends spans) in
    search rules

pub bounds-cells-ends : goal.bounds-cells-ends
bounds-cells-ends c =
    let cells = c.self.inside.cells.items in
    let q = c.args.queue in
    let ends = c.self.inside.ends in
    let within : q < ends.len = omega (arith, c.requires.queue, ap (λ v. v.queues) c.self.view_is, ends.ok.0) in
    let spans = end_here cells ends.items ends.len q c.index.result.now (Some c.in-Some.ends) c.self.invariant ends.ok.0 within c.index.ensures c.in-Some.is in
    subst (λ cs. c.in-Some.ends.first < length cs) (sym c.as_mut_slice-cells.ensures.value) (first_within cells q c.in-Some.ends spans)

-- the first one waits
pub invariant_of-self : goal.invariant_of-self
invariant_of-self c =
    let cells = c.self.inside.cells.items in
    let new = c.unlink_along.new.cells in
    let ends = c.self.inside.ends.items in
    let said = c.unlink_along.ensures in
    let long : length new ≡ c.self.inside.cells.len = omega (arith, c.unlink_along.auto.cells, c.as_mut_slice-cells.ensures.len) in
    let relinked : Relinked cells new = subst (λ cs. Relinked cs new) c.as_mut_slice-cells.ensures.value said.relinked in
    subst (λ cs. Linked cs ends) (sym (with_items_is c.self.inside.cells new long))
    (linked_relinked cells new ends relinked said.fit c.self.invariant)

pub unlink_gone-requires-clause-within : goal.unlink_gone-requires-clause-within
unlink_gone-requires-clause-within c =
    let cells = c.self.inside.cells.items in
    let q = c.args.queue in
    let ends = c.self.inside.ends in
    let within : q < ends.len = omega (arith, c.requires.queue, ap (λ v. v.queues) c.self.view_is, ends.ok.0) in
    let spans = end_here cells ends.items ends.len q c.index.result.now (Some c.in-Some.ends) c.self.invariant ends.ok.0 within c.index.ensures c.in-Some.is in
    subst (λ cs. c.in-Some.ends.first < length cs) (sym c.as_mut_slice-cells.ensures.value) (first_within cells q c.in-Some.ends spans)

-- none waits
pub invariant_of-self-in_default-unlink_gone : goal.invariant_of-self-in_default-unlink_gone
invariant_of-self-in_default-unlink_gone c =
    let cells = c.self.inside.cells.items in
    let new = c.unlink_gone.new.cells in
    let ends = c.self.inside.ends.items in
    let said = c.unlink_gone.ensures in
    let long : length new ≡ c.self.inside.cells.len = omega (arith, c.unlink_gone.auto.cells, c.as_mut_slice-cells.ensures.len) in
    let relinked : Relinked cells new = subst (λ cs. Relinked cs new) c.as_mut_slice-cells.ensures.value said.relinked in
    subst (λ cs. Linked cs ends) (sym (with_items_is c.self.inside.cells new long))
    (linked_relinked cells new ends relinked said.fit c.self.invariant)

pub unlink_along-requires-2-clause-within : goal.unlink_along-requires-2-clause-within
unlink_along-requires-2-clause-within c =
    let cells = c.self.inside.cells.items in
    let q = c.args.queue in
    let e = c.in-Some.ends in
    let n = c.in-Some-unlink_gone.first in
    let ends = c.self.inside.ends in
    let within : q < ends.len = omega (arith, c.requires.queue, ap (λ v. v.queues) c.self.view_is, ends.ok.0) in
    let spans = end_here cells ends.items ends.len q c.index.result.now (Some e) c.self.invariant ends.ok.0 within c.index.ensures c.in-Some.is in
    let leads =
    subst (λ cs. (k : ℕ) → queue_at (marks_of cs) e.first ≡ Some k → LeadsOn (marks_of cs) k e.first n) c.as_mut_slice-cells.ensures.value c.in-Some-unlink_gone.ensures.found q spans.first_in in
    omega (arith, reached_within cells q e.first n leads, c.unlink_gone.auto.cells, c.as_mut_slice-cells.ensures.len, c.self.inside.cells.ok.0)

-- the queue begins later
pub invariant_of-self-2 : goal.invariant_of-self-2
invariant_of-self-2 c =
    let cells = c.self.inside.cells.items in
    let mid = c.unlink_gone.new.cells in
    let new = c.unlink_along-2.new.cells in
    let q = c.args.queue in
    let e = c.in-Some.ends in
    let n = c.in-Some-unlink_gone.first in
    let ends = c.self.inside.ends in
    let said = c.unlink_along-2.ensures in
    let within : q < ends.len = omega (arith, c.requires.queue, ap (λ v. v.queues) c.self.view_is, ends.ok.0) in
    let spans = end_here cells ends.items ends.len q c.index.result.now (Some e) c.self.invariant ends.ok.0 within c.index.ensures c.in-Some.is in
    let is = slice_get_read ends.items ends.len q c.index.result.now ends.ok.0 within c.index.ensures ∙ ap Some c.in-Some.is in
    let leads =
    subst (λ cs. (k : ℕ) → queue_at (marks_of cs) e.first ≡ Some k → LeadsOn (marks_of cs) k e.first n) c.as_mut_slice-cells.ensures.value c.in-Some-unlink_gone.ensures.found q spans.first_in in
    let here = cell_here cells e.first (first_within cells q e spans) in
    let gone : (get_or cells e.first no_cell).mark.waits ≡ false =
    subst (λ cs. (get_or cs e.first no_cell).mark.waits ≡ false) c.as_mut_slice-cells.ensures.value c.if-cells-ends.false in
    let first : Relinked cells mid = subst (λ cs. Relinked cs mid) c.as_mut_slice-cells.ensures.value c.unlink_gone.ensures.relinked in
    let long : length new ≡ c.self.inside.cells.len = omega (arith, c.unlink_along-2.auto.cells, c.unlink_gone.auto.cells, c.as_mut_slice-cells.ensures.len) in
    subst (λ cs. Linked cs (slice_set ends.items q (Some (record { first = n; last = e.last })))) (sym (with_items_is c.self.inside.cells new long))
    (linked_relinked cells new (slice_set ends.items q (Some (record { first = n; last = e.last }))) (relinked_then cells mid new first said.relinked) said.fit
    (linked_later cells ends.items q n e (get_or cells e.first no_cell) c.self.invariant is here gone leads))
