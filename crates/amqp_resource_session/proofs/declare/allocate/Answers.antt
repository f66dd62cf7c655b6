use Rattle.std.proofs.Common.{None, Some, [], cond, ap, ◌∙◌, refl}
use Rattle.amqp_resource_held.specs.declared.held.Held.{Held}
use Rattle.amqp_txn_types.specs.Ids.{same_id}
use Rattle.amqp_resource_held.specs.Held.{SameHeld}
use Rattle.amqp_resource_session.proofs.Keeping.{drew-live, drew-unused}
use Rattle.amqp_resource_session.proofs.declare.allocate.Goals as goal

pub returns-in-Some-clause-answer : goal.returns-in-Some-clause-answer
returns-in-Some-clause-answer g c =
    let roomy : Held = record c.args.held.now { work = c.make_room-2.new.self } in
    let same : SameHeld c.args.held.now roomy = record { live = c.make_room-2.ensures.same.kept; links = λ k. refl; opened = refl } in (
      c.in-Some.id,
      drew-unused c.args.held.now roomy _ c.in-Some.id same c.in-Some.ensures.unused,
      record {
        live = λ t. c.add.ensures.kept t ∙ ap (cond (same_id t c.in-Some.id) (Some (None, []))) (same.live t);
        links = λ k. refl;
        opened = refl;
      },
    )

pub returns-in-None-clause-answer : goal.returns-in-None-clause-answer
returns-in-None-clause-answer g c =
    let roomy : Held = record c.args.held.now { work = c.make_room-2.new.self } in
    let same : SameHeld c.args.held.now roomy = record { live = c.make_room-2.ensures.same.kept; links = λ k. refl; opened = refl } in
    (drew-live c.args.held.now roomy _ same c.in-None.ensures.unused, same)
