use Rattle.std.proofs.Common.{sym}
use Rattle.txn_mailbox_serving.proofs.Running.{if_ok, keeps-lists}
use Rattle.txn_mailbox_serving.proofs.serving.serve_two.Goals as goal

pub returns-in-Ok-clause-keeps : goal.returns-in-Ok-clause-keeps
returns-in-Ok-clause-keeps g c =
    rw (sym c.in-Ok.ensures.first, sym c.in-Ok.ensures.second)
    (if_ok c.serve_in.result _ _ (λ served says. keeps-lists served.session _ _ served.entries served.marks served.stop says) c.serve_in.ensures.serves)
