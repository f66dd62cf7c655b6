use Rattle.std.proofs.Common.{◌≡◌, ◌≤◌, ◌<◌, ◌+◌, ℕ, true, false, length, drop, None, vec_capacity}
use Rattle.crossbeam_queue.specs.Passes.{view, IsPassOf}
use Rattle.amqp_resource_session.specs.Session.{StandsFor, stop_of}
use Rattle.txn_mailbox_queue.specs.Order.{count, view_of}
use Rattle.txn_mailbox_serving.specs.Steps.{list_of}
use Rattle.txn_mailbox_serving.specs.Serving.{ServedSoFar}
use Rattle.txn_mailbox_serving.proofs.serving.serve_all.Given as goal

-- the items that were taken were served in order, and the copies from there on are as they were
abbrev pub invariant-loop-i : goal.invariant-loop-i
invariant-loop-i g l = record {
  queue : IsPassOf l.queue l.seat;
  seen : view l.seat ≡ view_of false false true 0 0 (view l.seat).taken;
  many : length (view l.seat).taken ≡ l.i;
  first : length l.copies.first.items ≡ length l.fn.work.copies.first.items;
  second : length l.copies.second.items ≡ length l.fn.work.copies.second.items;
  waits : (k : ℕ) → k < 2
      → drop (count k (view l.seat).taken) (list_of l.copies.first.items l.copies.second.items k)
      ≡ drop (count k (view l.seat).taken) (list_of l.fn.work.copies.first.items l.fn.work.copies.second.items k);
  stands : l.server.stop ≡ None → (stop_of l.server.session ≡ None) × StandsFor l.server.session l.server.entries.items;
  entries : length l.server.entries.items ≤ l.i + 2;
  marks : length l.server.marks.items ≤ l.i + 2;
  entries_room : l.count + 2 ≤ vec_capacity l.server.entries;
  marks_room : l.count + 2 ≤ vec_capacity l.server.marks;
  served : ServedSoFar g.S.Tells.told g.S.LayerBelow.sure g.G.IdSource.next g.G.IdSource.start l.fn.work.server.session l.fn.work.server.ids
      l.fn.work.copies.first.items l.fn.work.copies.second.items l.fn.work.first_attach l.fn.work.second_attach (view l.seat).taken l.server;
}
