use Rattle.std.proofs.Common.{length}
use Rattle.txn_mailbox_serving.proofs.serving.serve_two.Given as goal

abbrev pub ghosts-serve_in : goal.ghosts-serve_in
ghosts-serve_in g a = record { first = length a.copies.first.items; second = length a.copies.second.items }
