use Rattle.std.proofs.Common.{◌≡◌, ◌≤◌, ◌+◌, length, true}
use Rattle.amqp_below_ids.specs.Ids.{Drew}
use Rattle.amqp_resource_log.specs.Live.{kept}
use Rattle.amqp_resource_held.specs.Draws.{all_live}
use Rattle.amqp_resource_held.proofs.draws.draw_unused.Given as goal

abbrev pub invariant-loop-turn : goal.invariant-loop-turn
invariant-loop-turn g l = record {
  count : length l.drawn.ids ≡ l._turn;
  room : 16 ≤ l.drawn.spare + l._turn;
  all : all_live (kept l.work) l.drawn.ids ≡ true;
  drew : Drew (g.G.IdSource.next l.fn.ids) (g.G.IdSource.next l.ids) l.drawn.ids;
  start : g.G.IdSource.start l.ids ≡ g.G.IdSource.start l.fn.ids;
}
