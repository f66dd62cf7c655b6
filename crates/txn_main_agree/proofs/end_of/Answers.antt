use Rattle.std.proofs.Common.{rules}
use Rattle.txn_main_agree.proofs.end_of.Goals as goal

-- the recorder is the new one
pub returns : goal.returns
returns g c = (c.new-below.result, search rules, c.end_agree.ensures)
