use Rattle.std.proofs.Common.{◌≡◌, ◌≤◌, ◌+◌, take, length}
use Rattle.amqp_resource_shared.proofs.draws.copy_into.Given as goal

abbrev pub invariant-loop-place : goal.invariant-loop-place
invariant-loop-place l =
    (l.copy.ids ≡ take l.place l.drawn.ids) × (length l.drawn.ids ≤ l.copy.spare + l.place)
