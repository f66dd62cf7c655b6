use Rattle.txn_audit_fits.proofs.audits.first_difference.Given as goal

abbrev pub ghosts-judge_lines : goal.ghosts-judge_lines
ghosts-judge_lines g a = record { name = a.blank.name; parts = a.blank.parts }
