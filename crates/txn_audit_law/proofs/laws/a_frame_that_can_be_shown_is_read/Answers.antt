use Rattle.txn_audit_law.proofs.Reading.{out_line-read}
use Rattle.txn_audit_law.proofs.laws.a_frame_that_can_be_shown_is_read.Goals as goal

pub returns : goal.returns
returns c frame s = out_line-read frame s
