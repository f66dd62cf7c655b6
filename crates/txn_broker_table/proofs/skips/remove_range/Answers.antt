use Rattle.txn_broker_table.proofs.Words.{Faded, Removes, SkipsFit, ap, arith, get_or, gone, inl, inr, length, length-map, marks_of, min, no_cell, refl, slice_set, subst, sym, ◌+◌, ◌<◌, ◌∙◌, ◌≡◌, ◌≤◌, ◌⊎◌}
use Rattle.std.proofs.lemmas.Bool.Decides.{leb_tells}
use Rattle.txn_broker_table.proofs.Fading.{faded_set, faded_then}
use Rattle.txn_broker_table.proofs.Reading.{cell_here, mark_at}
use Rattle.txn_broker_table.proofs.Skipping.{marks_gone, removes_all, removes_none, removes_one, removes_over, skips_after}
use Rattle.txn_broker_table.proofs.skips.remove_range.Goals as goal

-- nothing is removed yet
pub loop-at-init : goal.loop-at-init
loop-at-init c =
    let said = c.first_waiting-at.ensures in
    let old = marks_of c.args.cells.now in
    record {
      fit = said.fit;
      faded = said.faded;
      from = said.from;
      removes =
          subst (λ ms. Removes c.args.from (min c.args.to c.first_waiting-at.result) old ms) (sym said.marks)
          (removes_over c.args.from c.args.to c.args.from c.first_waiting-at.result old old (omega arith) said.from
          (removes_none c.args.from (min c.args.to c.args.from) old (omega arith)) said.none);
    }

pub first_waiting-at-requires-in-loop-at : goal.first_waiting-at-requires-in-loop-at
first_waiting-at-requires-in-loop-at c =
    let cells = c.loop-at.cells in
    let at = c.loop-at.at in
    let below : at < length cells = omega (arith, c.loop-at-test.true, c.min-end.ensures, c.loop-at.auto.cells) in
    let x = get_or cells at no_cell in
    let here = cell_here cells at below in
    record {
      fit =
          subst (λ cs. SkipsFit cs) (sym (c.set_gone.ensures x here))
          (skips_after cells at x (record x { mark = gone x.mark }) here refl refl refl c.loop-at.invariant.fit);
    }

-- one more is removed
pub loop-at-preserved : goal.loop-at-preserved
loop-at-preserved c =
    let cells = c.loop-at.cells in
    let at = c.loop-at.at in
    let held = c.loop-at.invariant in
    let said = c.first_waiting-at-in-loop-at.ensures in
    let next = c.first_waiting-at-in-loop-at.result in
    let old = marks_of c.args.cells.now in
    let below : at < length cells = omega (arith, c.loop-at-test.true, c.min-end.ensures, c.loop-at.auto.cells) in
    let before : at < c.args.to = omega (arith, c.loop-at-test.true, c.min-end.ensures) in
    let x = get_or cells at no_cell in
    let here = cell_here cells at below in
    let d = record x { mark = gone x.mark } in
    let set = c.set_gone.ensures x here in
    let marks : marks_of c.set_gone.new.cells ≡ slice_set (marks_of cells) at (gone x.mark) =
    ap marks_of set ∙ marks_gone cells at x in
    record {
      fit = said.fit;
      faded =
          faded_then c.args.cells.now c.set_gone.new.cells c.first_waiting-at-in-loop-at.new.cells
          (subst (λ cs. Faded c.args.cells.now cs) (sym set)
          (faded_then c.args.cells.now cells (slice_set cells at d) held.faded (faded_set cells at x d here refl refl (λ was. refl))))
          said.faded;
      from = omega (arith, held.from, said.from);
      removes =
          subst (λ ms. Removes c.args.from (min c.args.to next) old ms) (sym said.marks)
          (removes_over c.args.from c.args.to (at + 1) next old (marks_of c.set_gone.new.cells) (omega (arith, held.from)) said.from
          (subst (λ ms. Removes c.args.from (min c.args.to (at + 1)) old ms) (sym marks)
          (removes_one c.args.from c.args.to at x.mark old (marks_of cells) held.from before (mark_at cells at x here) held.removes))
          said.none);
    }

pub returns-clause-removes : goal.returns-clause-removes
returns-clause-removes c =
    let cells = c.loop-at.cells in
    let done : (c.args.to ≤ c.loop-at.at) ⊎ (length (marks_of cells) ≤ c.loop-at.at) =
    elim (leb_tells c.args.to (length cells)) [
      | inl p ↦ inl (omega (arith, p.1, c.loop-at-test.false, c.min-end.ensures, c.loop-at.auto.cells))
      | inr p ↦ inr (omega (arith, p.1, c.loop-at-test.false, c.min-end.ensures, c.loop-at.auto.cells, length-map cells (λ y. y.mark)))
    ] in
    removes_all c.args.from c.args.to c.loop-at.at (marks_of c.args.cells.now) (marks_of cells) done c.loop-at.invariant.removes
