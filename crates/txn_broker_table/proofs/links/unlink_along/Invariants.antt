use Rattle.txn_broker_table.proofs.Words.{LinksFit, Relinked, length, ◌<◌}
use Rattle.txn_broker_table.proofs.links.unlink_along.Given as goal

-- the message is one of them
abbrev pub invariant-loop : goal.invariant-loop
invariant-loop l = record {
  fit : LinksFit l.cells;
  relinked : Relinked l.initial.cells l.cells;
  within : l.at < length l.cells;
}
