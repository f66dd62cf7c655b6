use Rattle.std.proofs.Common.{rules}
use Rattle.txn_broker_table.proofs.Words.{Leads, LeadsOn, LinksFit, Relinked, Some, ap, arith, get_or, length, marks_of, no_cell, queue_at, refl, slice_set, subst, sym, ℕ, ◌<◌, ◌∙◌, ◌≡◌}
use Rattle.txn_broker_table.proofs.Reading.{cell_here}
use Rattle.txn_broker_table.proofs.Linkage.{leads_here, left_falls, links_set, queue_here, reached_within, relinked_same, relinked_set, relinked_then, unlinked}
use Rattle.txn_broker_table.proofs.links.unlink_gone.Goals as goal

pub loop-next-init : goal.loop-next-init
loop-next-init c = record {
  fit = c.requires.fit;
  relinked = relinked_same c.args.cells.now;
  leads = λ queue at. leads_here c.args.cells.now queue c.args.number c.requires.fit c.requires.within at;
}

pub bounds-cells-other : goal.bounds-cells-other
bounds-cells-other c =
    let old = c.args.cells.now in
    let q = (get_or old c.args.number no_cell).mark.queue in
    omega (
      arith,
      c.loop-next.auto.cells,
      reached_within old q c.args.number c.in-Some.other
          (subst (λ o. Leads (marks_of old) q c.args.number o) c.in-Some.is (c.loop-next.invariant.leads q (queue_here old c.args.number c.requires.within))),
    )

pub offset_bounds-cells-other : goal.offset_bounds-cells-other
offset_bounds-cells-other c =
    let old = c.args.cells.now in
    let q = (get_or old c.args.number no_cell).mark.queue in
    let below : c.in-Some.other < length old =
    reached_within old q c.args.number c.in-Some.other
    (subst (λ o. Leads (marks_of old) q c.args.number o) c.in-Some.is (c.loop-next.invariant.leads q (queue_here old c.args.number c.requires.within))) in
    search rules

pub bounds : goal.bounds
bounds c =
    let old = c.args.cells.now in
    let q = (get_or old c.args.number no_cell).mark.queue in
    omega (
      arith,
      c.loop-next.auto.cells,
      reached_within old q c.args.number c.in-Some.other
          (subst (λ o. Leads (marks_of old) q c.args.number o) c.in-Some.is (c.loop-next.invariant.leads q (queue_here old c.args.number c.requires.within))),
    )

pub offset_bounds-cells-other-in-Some : goal.offset_bounds-cells-other-in-Some
offset_bounds-cells-other-in-Some c =
    let old = c.args.cells.now in
    let q = (get_or old c.args.number no_cell).mark.queue in
    let below : c.in-Some.other < length old =
    reached_within old q c.args.number c.in-Some.other
    (subst (λ o. Leads (marks_of old) q c.args.number o) c.in-Some.is (c.loop-next.invariant.leads q (queue_here old c.args.number c.requires.within))) in
    search rules

pub loop-next-smaller : goal.loop-next-smaller
loop-next-smaller c =
    let old = c.args.cells.now in
    let cells = c.loop-next.cells in
    let q = (get_or old c.args.number no_cell).mark.queue in
    let m = c.in-Some.other in
    let below : m < length old =
    reached_within old q c.args.number m
    (subst (λ o. Leads (marks_of old) q c.args.number o) c.in-Some.is (c.loop-next.invariant.leads q (queue_here old c.args.number c.requires.within))) in
    let there : m < length cells = omega (arith, below, c.loop-next.auto.cells) in
    let b = get_or cells m no_cell in
    let falls = left_falls (marks_of cells) b.mark.queue (length cells) m c.loop-next.next (Some c.in-Some-next.further) c.in-Some.is there
    (subst (λ o. Leads (marks_of cells) b.mark.queue m o) c.in-Some-next.is (c.loop-next.invariant.fit m b (cell_here cells m there))) in
    omega (arith, falls, c.set_next.auto.cells)

pub loop-next-preserved : goal.loop-next-preserved
loop-next-preserved c =
    let old = c.args.cells.now in
    let cells = c.loop-next.cells in
    let held = c.loop-next.invariant in
    let n = c.args.number in
    let m = c.in-Some.other in
    let further = c.in-Some-next.further in
    let within : n < length cells = omega (arith, c.requires.within, c.loop-next.auto.cells) in
    let x = get_or cells n no_cell in
    let here = cell_here cells n within in
    let leads : (queue : ℕ) → queue_at (marks_of old) n ≡ Some queue → LeadsOn (marks_of old) queue n m =
    λ queue at. subst (λ o. Leads (marks_of old) queue n o) c.in-Some.is (held.leads queue at) in
    let there : m < length cells =
    omega (arith, c.loop-next.auto.cells, reached_within old (get_or old n no_cell).mark.queue n m (leads (get_or old n no_cell).mark.queue (queue_here old n c.requires.within))) in
    let past : (queue : ℕ) → queue_at (marks_of old) n ≡ Some queue → LeadsOn (marks_of old) queue n further =
    λ queue at. unlinked old cells queue n m further held.relinked.marks held.fit (leads queue at) there c.if-cells-other.false c.in-Some-next.is in
    let own : queue_at (marks_of old) n ≡ Some x.mark.queue =
    ap (λ ms. queue_at ms n) (sym held.relinked.marks) ∙ queue_here cells n within in
    let set = c.set_next.ensures x here in
    let d = record x { next = Some further } in
    record {
      fit =
          subst (λ cs. LinksFit cs) (sym set)
          (links_set cells n further x d here refl refl held.fit
          (subst (λ ms. LeadsOn ms x.mark.queue n further) (sym held.relinked.marks) (past x.mark.queue own)));
      relinked =
          subst (λ cs. Relinked old cs) (sym set)
          (relinked_then old cells (slice_set cells n d) held.relinked (relinked_set cells n x d here refl refl));
      leads = past;
    }
