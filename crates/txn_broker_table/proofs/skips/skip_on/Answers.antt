use Rattle.txn_broker_table.proofs.Words.{Faded, SkipsFit, get_or, marks_of, no_cell, refl, subst, sym, ◌≡◌}
use Rattle.txn_broker_table.proofs.Fading.{faded_set}
use Rattle.txn_broker_table.proofs.Reading.{cell_here, marks_kept}
use Rattle.txn_broker_table.proofs.Skipping.{skips_further, skips_here, skips_set, skips_within}
use Rattle.txn_broker_table.proofs.skips.skip_on.Goals as goal

pub returns-then-to-cells-clause-after : goal.returns-then-to-cells-clause-after
returns-then-to-cells-clause-after c = (skips_here c.args.cells.now c.args.number c.requires.fit c.requires.within).after

pub returns-then-to-cells-clause-bound : goal.returns-then-to-cells-clause-bound
returns-then-to-cells-clause-bound c = skips_within c.args.cells.now c.args.number _ (skips_here c.args.cells.now c.args.number c.requires.fit c.requires.within)

pub returns-then-to-cells-clause-none : goal.returns-then-to-cells-clause-none
returns-then-to-cells-clause-none c = (skips_here c.args.cells.now c.args.number c.requires.fit c.requires.within).none

pub returns-then-cells-to-clause-after : goal.returns-then-cells-to-clause-after
returns-then-cells-to-clause-after c = (skips_here c.args.cells.now c.args.number c.requires.fit c.requires.within).after

pub returns-then-cells-to-clause-bound : goal.returns-then-cells-to-clause-bound
returns-then-cells-to-clause-bound c = skips_within c.args.cells.now c.args.number _ (skips_here c.args.cells.now c.args.number c.requires.fit c.requires.within)

pub returns-then-cells-to-clause-none : goal.returns-then-cells-to-clause-none
returns-then-cells-to-clause-none c = (skips_here c.args.cells.now c.args.number c.requires.fit c.requires.within).none

pub returns-clause-fit : goal.returns-clause-fit
returns-clause-fit c =
    let cells = c.args.cells.now in
    let n = c.args.number in
    let x = get_or cells n no_cell in
    let here = cell_here cells n c.requires.within in
    let first = skips_here cells n c.requires.fit c.requires.within in
    subst (λ cs. SkipsFit cs) (sym (c.set_skip.ensures x here))
    (skips_set cells n (get_or cells x.skip no_cell).skip x (record x { skip = (get_or cells x.skip no_cell).skip }) here refl refl c.requires.fit
    (skips_further cells n x.skip c.requires.fit first c.if-to-cells.false c.if-cells-to.false))

pub returns-clause-marks : goal.returns-clause-marks
returns-clause-marks c =
    let cells = c.args.cells.now in
    let n = c.args.number in
    let x = get_or cells n no_cell in
    let here = cell_here cells n c.requires.within in
    subst (λ cs. marks_of cs ≡ marks_of cells) (sym (c.set_skip.ensures x here))
    (marks_kept cells n x (record x { skip = (get_or cells x.skip no_cell).skip }) here refl)

pub returns-clause-faded : goal.returns-clause-faded
returns-clause-faded c =
    let cells = c.args.cells.now in
    let n = c.args.number in
    let x = get_or cells n no_cell in
    let here = cell_here cells n c.requires.within in
    subst (λ cs. Faded cells cs) (sym (c.set_skip.ensures x here))
    (faded_set cells n x (record x { skip = (get_or cells x.skip no_cell).skip }) here refl refl (λ gone. gone))

pub returns-clause-after : goal.returns-clause-after
returns-clause-after c =
    let cells = c.args.cells.now in
    let first = skips_here cells c.args.number c.requires.fit c.requires.within in
    (skips_further cells c.args.number _ c.requires.fit first c.if-to-cells.false c.if-cells-to.false).after

pub returns-clause-bound : goal.returns-clause-bound
returns-clause-bound c =
    let cells = c.args.cells.now in
    let first = skips_here cells c.args.number c.requires.fit c.requires.within in
    skips_within cells c.args.number _ (skips_further cells c.args.number _ c.requires.fit first c.if-to-cells.false c.if-cells-to.false)

pub returns-clause-none : goal.returns-clause-none
returns-clause-none c =
    let cells = c.args.cells.now in
    let first = skips_here cells c.args.number c.requires.fit c.requires.within in
    (skips_further cells c.args.number _ c.requires.fit first c.if-to-cells.false c.if-cells-to.false).none
