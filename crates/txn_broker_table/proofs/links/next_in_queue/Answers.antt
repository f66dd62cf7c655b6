use Rattle.std.proofs.Common.{rules}
use Rattle.txn_broker_table.proofs.Words.{Leads, LeadsOn, get_or, length, marks_of, no_cell, refl, same_Some, subst, sym, ◌<◌, ◌∙◌}
use Rattle.txn_broker_table.proofs.Reading.{cell_here, mark_at, queue_of}
use Rattle.txn_broker_table.proofs.Linkage.{Reaches, left_falls, reached_found, reached_on, reached_within, reaches_first}
use Rattle.txn_broker_table.proofs.links.next_in_queue.Goals as goal

pub loop-at-init : goal.loop-at-init
loop-at-init c queue at =
    let cells = c.args.cells.now in
    let x = get_or cells c.args.number no_cell in
    let here = cell_here cells c.args.number c.requires.within in
    reaches_first (marks_of cells) queue c.args.number x.next
    (subst (λ q. Leads (marks_of cells) q c.args.number x.next)
    (same_Some x.mark.queue queue (sym (queue_of (marks_of cells) c.args.number x.mark x.mark.queue (mark_at cells c.args.number x here) refl) ∙ at))
    (c.requires.fit c.args.number x here))

pub bounds-cells-other : goal.bounds-cells-other
bounds-cells-other c =
    let cells = c.args.cells.now in
    let x = get_or cells c.args.number no_cell in
    let here = cell_here cells c.args.number c.requires.within in
    reached_within cells x.mark.queue c.args.number c.in-Some.other
    (subst (λ o. Reaches (marks_of cells) x.mark.queue c.args.number o) c.in-Some.is
    (c.loop-at.invariant x.mark.queue (queue_of (marks_of cells) c.args.number x.mark x.mark.queue (mark_at cells c.args.number x here) refl)))

pub offset_bounds-cells-other : goal.offset_bounds-cells-other
offset_bounds-cells-other c =
    let cells = c.args.cells.now in
    let x = get_or cells c.args.number no_cell in
    let here = cell_here cells c.args.number c.requires.within in
    let below : c.in-Some.other < length cells =
    reached_within cells x.mark.queue c.args.number c.in-Some.other
    (subst (λ o. Reaches (marks_of cells) x.mark.queue c.args.number o) c.in-Some.is
    (c.loop-at.invariant x.mark.queue (queue_of (marks_of cells) c.args.number x.mark x.mark.queue (mark_at cells c.args.number x here) refl))) in
    search rules

pub bounds-cells-other-in-Some : goal.bounds-cells-other-in-Some
bounds-cells-other-in-Some c =
    let cells = c.args.cells.now in
    let x = get_or cells c.args.number no_cell in
    let here = cell_here cells c.args.number c.requires.within in
    reached_within cells x.mark.queue c.args.number c.in-Some.other
    (subst (λ o. Reaches (marks_of cells) x.mark.queue c.args.number o) c.in-Some.is
    (c.loop-at.invariant x.mark.queue (queue_of (marks_of cells) c.args.number x.mark x.mark.queue (mark_at cells c.args.number x here) refl)))

pub offset_bounds-cells-other-in-Some : goal.offset_bounds-cells-other-in-Some
offset_bounds-cells-other-in-Some c =
    let cells = c.args.cells.now in
    let x = get_or cells c.args.number no_cell in
    let here = cell_here cells c.args.number c.requires.within in
    let below : c.in-Some.other < length cells =
    reached_within cells x.mark.queue c.args.number c.in-Some.other
    (subst (λ o. Reaches (marks_of cells) x.mark.queue c.args.number o) c.in-Some.is
    (c.loop-at.invariant x.mark.queue (queue_of (marks_of cells) c.args.number x.mark x.mark.queue (mark_at cells c.args.number x here) refl))) in
    search rules

-- it waits
pub returns-then-cells-other : goal.returns-then-cells-other
returns-then-cells-other c queue at =
    let cells = c.args.cells.now in
    let leads : LeadsOn (marks_of cells) queue c.args.number c.in-Some.other =
    subst (λ o. Reaches (marks_of cells) queue c.args.number o) c.in-Some.is (c.loop-at.invariant queue at) in
    reached_found cells queue c.args.number c.in-Some.other (get_or cells c.in-Some.other no_cell) leads
    (cell_here cells c.in-Some.other (reached_within cells queue c.args.number c.in-Some.other leads)) c.if-cells-other.true

-- it is gone
pub loop-at-preserved : goal.loop-at-preserved
loop-at-preserved c queue at =
    let cells = c.args.cells.now in
    let leads : LeadsOn (marks_of cells) queue c.args.number c.in-Some.other =
    subst (λ o. Reaches (marks_of cells) queue c.args.number o) c.in-Some.is (c.loop-at.invariant queue at) in
    reached_on cells queue c.args.number c.in-Some.other (get_or cells c.in-Some.other no_cell) c.requires.fit leads
    (cell_here cells c.in-Some.other (reached_within cells queue c.args.number c.in-Some.other leads)) c.if-cells-other.false

pub loop-at-smaller : goal.loop-at-smaller
loop-at-smaller c =
    let cells = c.args.cells.now in
    let x = get_or cells c.args.number no_cell in
    let here = cell_here cells c.args.number c.requires.within in
    let b = get_or cells c.in-Some.other no_cell in
    let below : c.in-Some.other < length cells =
    reached_within cells x.mark.queue c.args.number c.in-Some.other
    (subst (λ o. Reaches (marks_of cells) x.mark.queue c.args.number o) c.in-Some.is
    (c.loop-at.invariant x.mark.queue (queue_of (marks_of cells) c.args.number x.mark x.mark.queue (mark_at cells c.args.number x here) refl))) in
    left_falls (marks_of cells) b.mark.queue (length cells) c.in-Some.other c.loop-at.at b.next c.in-Some.is below
    (c.requires.fit c.in-Some.other b (cell_here cells c.in-Some.other below))
