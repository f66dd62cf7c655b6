use Rattle.std.proofs.Common.{◌≡◌, ℕ, ◌==◌, false, None, List, [], ◌∷◌, refl, sym, ◌∙◌, ap}
use Rattle.txn_program_lines.specs.Lines.{ended}
use Rattle.txn_program_lines.proofs.PieceLemmas.{ended-slice_split}
use Rattle.txn_audit_report.specs.OutLines.{is_state_of}
use Rattle.txn_audit_report.proofs.out_lines.is_state.Goals as goal

-- more than three pieces
many : (a b c : List ℕ) (pieces : List (List ℕ)) → ended pieces ≡ None → is_state_of (a ∷ b ∷ c ∷ pieces) ≡ false
many a b c [] e = cc e
many a b c (piece ∷ pieces) e = refl

pub returns : goal.returns
returns c =
    let first = rw c.in-Some.is at c.cut_at.ensures.pieces in
    let second = rw c.in-Some-others.is at c.cut_at-2.ensures.pieces in
    let third = rw c.in-Some-others-2.is at c.cut_at-3.ensures.pieces in
    sym (ap is_state_of (first ∙ ap (λ (ps : List (List ℕ)). c.cut_at.result.0.now ∷ ps) (second ∙ ap (λ (ps : List (List ℕ)). c.cut_at-2.result.0.now ∷ ps) third)) ∙ many c.cut_at.result.0.now c.cut_at-2.result.0.now c.cut_at-3.result.0.now _ (ended-slice_split (λ (octet : ℕ). octet == 58) c.in-Some-others-2.field-0.now))
