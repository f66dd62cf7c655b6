use Rattle.txn_broker_table.proofs.Words.{EndFits, IfSome, Prepared, Some, get_or, length, marks_of, no_cell, refl, subst, sym, ◌<◌}
use Rattle.txn_broker_table.proofs.Reading.{cell_here}
use Rattle.txn_broker_table.proofs.Pushing.{prepared_none, prepared_some}
use Rattle.txn_broker_table.proofs.links.extend_queue.Goals as goal

-- no message came to the queue before
pub returns-in-None-clause-prepared : goal.returns-in-None-clause-prepared
returns-in-None-clause-prepared c queue fits =
    prepared_none c.args.cells.now queue c.requires.fit (subst (λ o. EndFits (marks_of c.args.cells.now) queue o) c.in-None.is fits)

-- the last one leads to the new one
pub returns-in-Some-clause-prepared : goal.returns-in-Some-clause-prepared
returns-in-Some-clause-prepared c queue fits =
    let cells = c.args.cells.now in
    let e = c.in-Some.ends in
    let below : e.last < length cells = subst (λ o. IfSome o (λ x. x.last < length cells)) c.in-Some.is c.requires.within in
    let x = get_or cells e.last no_cell in
    let here = cell_here cells e.last below in
    subst (λ cs. Prepared cells queue cs) (sym (c.set_next.ensures x here))
    (prepared_some cells queue e x (record x { next = Some (length cells) }) c.requires.fit (subst (λ o. EndFits (marks_of cells) queue o) c.in-Some.is fits) here refl refl refl)
