use Rattle.std.proofs.Common.{◌≡◌, ℕ, ◌<◌}
use Rattle.txn_audit_fits.specs.Fits.{handed_text}
use Rattle.txn_audit_fits.proofs.endings.handed_of.Given as goal

abbrev pub invariant-loop-handed : goal.invariant-loop-handed
invariant-loop-handed l = (number : ℕ) → number < l.handed → l.line ≡ handed_text number → ⊥
