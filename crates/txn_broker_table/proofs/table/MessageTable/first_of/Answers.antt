use Rattle.txn_broker_table.proofs.Words.{Finds, Some, arith, is_waiting_in, length, marks_of, queue_at, refl, subst, sym, ℕ, ◌+◌, ◌<◌, ◌≡◌, None, ap}
use Rattle.std.proofs.lemmas.Option.{slice_get_read}
use Rattle.txn_broker_table.proofs.Ending.{end_found, end_here, end_none, end_past, first_within}
use Rattle.txn_broker_table.proofs.table.MessageTable.first_of.Goals as goal

-- no message came
pub returns-in_default : goal.returns-in_default
returns-in_default c =
    let cells = c.self.inside.cells.items in
    let q = c.args.queue in
    let ends = c.self.inside.ends in
    let within : q < ends.len = omega (arith, c.requires.queue, ap (λ v. v.queues) c.self.view_is, ends.ok.0) in
    subst (λ ms. Finds (is_waiting_in q) ms 0 None) (ap (λ v. v.marks) c.self.view_is)
    (end_none (marks_of cells) q (end_here cells ends.items ends.len q c.index.result.now None c.self.invariant ends.ok.0 within c.index.ensures c.in_default.is))

pub index-requires-2 : goal.index-requires-2
index-requires-2 c =
    let cells = c.self.inside.cells.items in
    let q = c.args.queue in
    let ends = c.self.inside.ends in
    let within : q < ends.len = omega (arith, c.requires.queue, ap (λ v. v.queues) c.self.view_is, ends.ok.0) in
    let spans = end_here cells ends.items ends.len q c.index.result.now (Some c.in-Some.ends) c.self.invariant ends.ok.0 within c.index.ensures c.in-Some.is in
    omega (arith, first_within cells q c.in-Some.ends spans, c.self.inside.cells.ok.0)

-- the first one waits
pub returns-then-index : goal.returns-then-index
returns-then-index c =
    let cells = c.self.inside.cells.items in
    let q = c.args.queue in
    let e = c.in-Some.ends in
    let ends = c.self.inside.ends in
    let within : q < ends.len = omega (arith, c.requires.queue, ap (λ v. v.queues) c.self.view_is, ends.ok.0) in
    let spans = end_here cells ends.items ends.len q c.index.result.now (Some e) c.self.invariant ends.ok.0 within c.index.ensures c.in-Some.is in
    let at = slice_get_read cells (length cells) e.first c.index-2.result.now refl (first_within cells q e spans) c.index-2.ensures in
    subst (λ ms. Finds (is_waiting_in q) ms 0 (Some e.first)) (ap (λ v. v.marks) c.self.view_is)
    (end_found cells q e c.index-2.result.now spans at c.if-index.true)

pub next_in_queue-requires-clause-within : goal.next_in_queue-requires-clause-within
next_in_queue-requires-clause-within c =
    let cells = c.self.inside.cells.items in
    let q = c.args.queue in
    let ends = c.self.inside.ends in
    let within : q < ends.len = omega (arith, c.requires.queue, ap (λ v. v.queues) c.self.view_is, ends.ok.0) in
    let spans = end_here cells ends.items ends.len q c.index.result.now (Some c.in-Some.ends) c.self.invariant ends.ok.0 within c.index.ensures c.in-Some.is in
    subst (λ cs. c.in-Some.ends.first < length cs) (sym c.as_slice.ensures.value) (first_within cells q c.in-Some.ends spans)

-- it is gone
pub returns : goal.returns
returns c =
    let cells = c.self.inside.cells.items in
    let q = c.args.queue in
    let e = c.in-Some.ends in
    let o = c.next_in_queue.result in
    let ends = c.self.inside.ends in
    let within : q < ends.len = omega (arith, c.requires.queue, ap (λ v. v.queues) c.self.view_is, ends.ok.0) in
    let spans = end_here cells ends.items ends.len q c.index.result.now (Some e) c.self.invariant ends.ok.0 within c.index.ensures c.in-Some.is in
    let at = slice_get_read cells (length cells) e.first c.index-2.result.now refl (first_within cells q e spans) c.index-2.ensures in
    let found : Finds (is_waiting_in q) (marks_of cells) (e.first + 1) o =
    subst (λ cs. (k : ℕ) → queue_at (marks_of cs) e.first ≡ Some k → Finds (is_waiting_in k) (marks_of cs) (e.first + 1) o) c.as_slice.ensures.value c.next_in_queue.ensures q spans.first_in in
    subst (λ ms. Finds (is_waiting_in q) ms 0 o) (ap (λ v. v.marks) c.self.view_is)
    (end_past cells q e c.index-2.result.now o spans at c.if-index.false found)
