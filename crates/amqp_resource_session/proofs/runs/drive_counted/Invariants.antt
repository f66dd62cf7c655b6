use Rattle.std.proofs.Common.{◌≡◌, ◌≤◌, ◌+◌, ◌*◌, length, take, None}
use Rattle.amqp_resource_record.specs.Entries.{steps_of}
use Rattle.amqp_resource_session.specs.Drive.{work_count}
use Rattle.amqp_resource_held.specs.Looks.{dues}
use Rattle.amqp_resource_session.specs.Session.{FitsTogether, held_of, below_of, stop_of}
use Rattle.amqp_resource_session.specs.Ran.{Ran}
use Rattle.amqp_resource_session.proofs.runs.drive_counted.Given as goal

-- the entries before the place are the record, and those from there on hold the steps that are left
abbrev pub invariant-loop-at : goal.invariant-loop-at
invariant-loop-at g l = record {
  runs : stop_of l.session ≡ None;
  fits : FitsTogether l.session;
  ran : Ran (g.S.Tells.told (below_of l.fn.session)) (g.S.Tells.told (below_of l.session)) (g.G.IdSource.next l.fn.ids) (g.G.IdSource.next l.ids) (held_of l.session) (take l.at l.entries.items);
  start : g.G.IdSource.start l.ids ≡ g.G.IdSource.start l.fn.ids;
  steps : steps_of l.entries.items ≡ l.fn.steps;
  count : length l.entries.items ≡ l.at-end;
  looks : l.looks + dues (held_of l.session).work ≤ l.fn.looks + 2 * work_count (take l.at l.entries.items);
}
