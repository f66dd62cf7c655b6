use Rattle.amqp_resource_log.proofs.Words.{frames_in, map, stripped, take, ◌+◌, ◌≡◌}
use Rattle.amqp_resource_log.proofs.copies.copy_places.Given as goal

abbrev pub invariant-loop-at : goal.invariant-loop-at
invariant-loop-at g l = record {
  list : l.list.items ≡ map stripped (take l.at (frames_in l.cells.cells l.id));
  looks : l.looks ≡ l.initial.looks + l.at;
}
