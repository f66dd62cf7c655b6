use Rattle.std.proofs.Common.{inl}
use Rattle.txn_program_agree.proofs.Unmade.{planned-serves}
use Rattle.txn_program_agree.proofs.serving.serve_agree.Goals as goal

-- the call over the recorder under the plans of the words
pub returns-in-Ok : goal.returns-in-Ok
returns-in-Ok g c =
    rw c.in-Some.is
    (planned-serves _ c.in-Some.command c.args.below c.under_plans-below.result _ _ _ _ c.in-Ok.reading c.agree_on_reading.result
    c.under_plans-below.ensures (inl c.in-Ok.ensures.found) c.agree_on_reading.ensures)
