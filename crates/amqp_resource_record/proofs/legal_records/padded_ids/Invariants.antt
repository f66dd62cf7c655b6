use Rattle.std.proofs.Common.{◌≡◌, take, length}
use Rattle.amqp_resource_record.proofs.legal_records.padded_ids.Given as goal

abbrev pub invariant-loop-place : goal.invariant-loop-place
invariant-loop-place l = record {
  same : take l.place l.ids ≡ take l.place l.drawn.ids;
  long : length l.ids ≡ 16;
}
