use Rattle.std.proofs.Common.{◌≡◌, ◌≤◌, length, take, vec_capacity}
use Rattle.txn_mailbox_serving.proofs.copies.copy_of.Given as goal

abbrev pub invariant-loop-place : goal.invariant-loop-place
invariant-loop-place l = record {
  copied : l.copy.items ≡ take l.place l.steps;
  room : length l.steps ≤ vec_capacity l.copy;
}
