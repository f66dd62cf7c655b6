use Rattle.std.proofs.Common.{[], ◌∷◌, refl}
use Rattle.txn_audit_fits.specs.Fits.{out_text}
use Rattle.txn_audit_fits.proofs.outs.lines_after_one.Goals as goal

pub returns-in-Some : goal.returns-in-Some
returns-in-Some c = (out_text c.args.frame.now ∷ [], rw c.in-Some.is at c.in_ok-after.ensures, refl)

pub returns-in-None : goal.returns-in-None
returns-in-None c = (refl, rw c.in-None.is at c.in_ok-after.ensures)
