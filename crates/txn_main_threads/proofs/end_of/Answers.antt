use Rattle.std.proofs.Common.{rules}
use Rattle.txn_main_threads.proofs.end_of.Goals as goal

-- the recorder is the new one
pub returns : goal.returns
returns g c = (c.new-below.result, search rules, search rules, c.end_threads_over.ensures)
