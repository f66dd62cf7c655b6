use Rattle.txn_audit_fits.proofs.difference.put_found.Goals as goal

pub returns : goal.returns
returns c = rw c.first_line.ensures.lines (rw c.front_of.ensures at c.put_shown.ensures)
