use Rattle.std.proofs.Common.{Some, [], refl}
use Rattle.amqp_resource_held.specs.declared.held.Held.{Held}
use Rattle.amqp_resource_held.proofs.Kept.{tied_declared}
use Rattle.amqp_resource_held.proofs.held.declare_on.Goals as goal

pub returns-clause-tied : goal.returns-clause-tied
returns-clause-tied c =
    let after : Held = record { work = c.add.new.self; links = c.add_on.new.links; opened = c.args.held.now.opened } in
    tied_declared c.args.held.now after c.args.id c.args.link (Some c.args.link, []) refl c.requires.unused c.add.ensures.kept c.add_on.ensures.ids
