use Rattle.txn_audit_fits.proofs.discharges.judge_discharge.Goals as goal

pub returns-then-not-is_declared_on : goal.returns-then-not-is_declared_on
returns-then-not-is_declared_on g c = λ next. c.judge_unknown.ensures c.args.work.now next

pub returns-then-rolls_back : goal.returns-then-rolls_back
returns-then-rolls_back g c = λ next. c.judge_rollback.ensures c.args.work.now next
