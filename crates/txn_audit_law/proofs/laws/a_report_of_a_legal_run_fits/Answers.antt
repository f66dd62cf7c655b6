use Rattle.txn_audit_law.proofs.Fitting.{report-fits}
use Rattle.txn_audit_law.proofs.laws.a_report_of_a_legal_run_fits.Goals as goal

pub returns : goal.returns
returns c steps next driven taken r s = report-fits steps next driven taken r s
