use Rattle.amqp_resource_log.proofs.Words.{FiltersInPlace, TransactionId, drop, filter, homes_in, is_live_cell, places_from, places_kept, spare, take, ◌++◌, ◌+◌, ◌≡◌}
use Rattle.amqp_resource_log.proofs.log.move_live.Given as goal

abbrev pub invariant-loop-place : goal.invariant-loop-place
invariant-loop-place g l = record {
  cells : FiltersInPlace is_live_cell l.initial.cells.cells l.cells.cells l.kept l.place;
  index : (t : TransactionId) → places_kept l.index.entries t ≡ places_from l.place t (drop l.place l.initial.cells.cells) ++ places_from 0 t (filter is_live_cell (take l.place l.initial.cells.cells));
  homes : homes_in l.index.entries ≡ homes_in l.initial.index.entries;
  spare : spare l.index ≡ spare l.initial.index;
  looks : l.looks ≡ l.initial.looks + l.kept;
}
