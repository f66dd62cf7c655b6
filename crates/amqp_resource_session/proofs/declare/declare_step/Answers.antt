use Rattle.std.proofs.Common.{ap, ◌∙◌}
use Rattle.std.specs.Prelude.{is_some}
use Rattle.amqp_resource_session.proofs.Keeping.{here-declared, here-repeat}
use Rattle.amqp_resource_session.proofs.declare.declare_step.Goals as goal

pub declare_on-requires-clause-opened : goal.declare_on-requires-clause-opened
declare_on-requires-clause-opened g c = ap is_some (c.in-Ok-make_room.ensures.same.links c.args.link) ∙ c.requires.opened

pub returns-in-Some-clause-leaves : goal.returns-in-Some-clause-leaves
returns-in-Some-clause-leaves g c =
    let declared = c.declare_on.ensures in
    here-declared c.args.held.now c.make_room-2.new.held c.declare_on.new.held c.args.link c.args.payload.now c.draw_unused.new.drawn c.in-Some.id c.requires.message c.requires.opened c.in-Ok-make_room.ensures.same
    c.in-Some.ensures.unused declared.live declared.links declared.tied declared.opened

pub returns-in-None-clause-leaves : goal.returns-in-None-clause-leaves
returns-in-None-clause-leaves g c =
    here-repeat c.args.held.now c.make_room-2.new.held c.args.link c.args.payload.now c.draw_unused.new.drawn c.requires.message c.requires.opened
    c.in-Ok-make_room.ensures.same c.in-None.ensures.unused
