use Rattle.txn_broker_table.proofs.Words.{NonePasses, arith, get_or, is_waiting, marks_of, no_cell, subst, ◌+◌, ◌∙◌}
use Rattle.txn_broker_table.proofs.Fading.{faded_then}
use Rattle.txn_broker_table.proofs.Reading.{cell_here, mark_at}
use Rattle.txn_broker_table.proofs.Skipping.{none_join, none_one}
use Rattle.txn_broker_table.proofs.skips.first_waiting.Goals as goal

pub loop-at-preserved : goal.loop-at-preserved
loop-at-preserved c =
    let cells = c.loop-at.cells in
    let held = c.loop-at.invariant in
    let said = c.skip_on-at.ensures in
    let at = c.loop-at.at in
    let x = get_or cells at no_cell in
    record {
      fit = said.fit;
      marks = said.marks ∙ held.marks;
      faded = faded_then c.args.cells.now cells c.skip_on-at.new.cells held.faded said.faded;
      from = omega (arith, held.from, said.after);
      none =
          none_join is_waiting (marks_of c.args.cells.now) c.args.from at c.skip_on-at.result held.none
          (subst (λ ms. NonePasses is_waiting ms at c.skip_on-at.result) held.marks
          (none_join is_waiting (marks_of cells) at (at + 1) c.skip_on-at.result
          (none_one is_waiting (marks_of cells) at x.mark (mark_at cells at x (cell_here cells at c.loop-at-test.true)) c.if-cells-at.false) said.none));
    }
