use Rattle.txn_mailbox_queue.proofs.Views.{begins}
use Rattle.txn_mailbox_queue.proofs.passes.open_queue.Goals as goal

pub ruled-requires-clause-rule : goal.ruled-requires-clause-rule
ruled-requires-clause-rule g c = begins _
