-- The steps of made transactions, pair by pair.
use Rattle.std.proofs.Common.{◌≡◌, ℕ, zero, suc, ◌+◌, ◌-◌, ◌≤◌, List, ◌++◌, sym, ◌∙◌, ap, append_assoc, arith}
use Rattle.amqp_resource_record.specs.declared.step.Step.{Step}
use Rattle.txn_program_runs.specs.Made.{made_from, made_pair}

-- two of the transactions that are left come together
pub made_from-pair : (left number delivery : ℕ) → 2 ≤ left → made_from left number delivery ≡ made_pair number delivery ++ made_from (left - 2) (number + 2) (delivery + 6)
made_from-pair zero number delivery two = absurd (omega (arith, two))
made_from-pair (suc zero) number delivery two = absurd (omega (arith, two))
made_from-pair (suc (suc left)) number delivery two =
    let less : left ≡ suc (suc left) - 2 = omega arith in
    ap (λ n. made_pair number delivery ++ made_from n (number + 2) (delivery + 6)) less

-- the steps so far, then those of two transactions, then those of the others
pub pair_appended : (all steps appended : List Step) (left number delivery : ℕ) → 2 ≤ left
    → appended ≡ steps ++ made_pair number delivery
    → steps ++ made_from left number delivery ≡ all
    → appended ++ made_from (left - 2) (number + 2) (delivery + 6) ≡ all
pair_appended all steps appended left number delivery two is so_far =
    rw is (append_assoc steps (made_pair number delivery) (made_from (left - 2) (number + 2) (delivery + 6))
    ∙ sym (ap (λ (more : List Step). steps ++ more) (made_from-pair left number delivery two)) ∙ so_far)
