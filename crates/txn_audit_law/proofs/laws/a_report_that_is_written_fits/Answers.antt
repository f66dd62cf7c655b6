use Rattle.std.proofs.Common.{sym}
use Rattle.txn_program_edges.specs.Words.{stream_of_ids}
use Rattle.txn_audit_law.proofs.Written.{driven-fits}
use Rattle.txn_audit_law.proofs.laws.a_report_that_is_written_fits.Goals as goal

pub returns-in-Some : goal.returns-in-Some
returns-in-Some g c layer plans ids below input left output written serves =
    driven-fits serves.reading (stream_of_ids ids) _ _ c.args.ran.now.driven c.in-Some.driven c.exchanges.result.now c.in-Some.is (sym c.exchanges.ensures)
    (λ run stop named. c.a_report_of_a_run_fits.ensures serves.reading (stream_of_ids ids) _ _ run (sym c.exchanges.ensures) stop named) serves.run.runs

pub returns-in_default : goal.returns-in_default
returns-in_default g c layer plans ids below input left output written serves = rw c.in_default.is tt
