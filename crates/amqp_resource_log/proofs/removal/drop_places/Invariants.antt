use Rattle.amqp_resource_log.proofs.Words.{count_by, emptied, frames_in, is_dead_cell, length, places_from, ◌+◌, ◌≡◌}
use Rattle.amqp_resource_log.proofs.removal.drop_places.Given as goal

abbrev pub invariant-loop-work : goal.invariant-loop-work
invariant-loop-work g l = record {
  places : l.places.items ≡ places_from 0 l.id l.cells.cells;
  dead : l.dead ≡ count_by is_dead_cell l.cells.cells;
  cells : emptied l.id l.cells.cells ≡ emptied l.id l.initial.cells.cells;
  looks : l.looks + length (frames_in l.cells.cells l.id) ≡ l.initial.looks + length (frames_in l.initial.cells.cells l.id);
}

abbrev pub decreases-loop-work : goal.decreases-loop-work
decreases-loop-work g l = length (frames_in l.cells.cells l.id)
