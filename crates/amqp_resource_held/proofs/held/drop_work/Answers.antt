use Rattle.std.proofs.Common.{refl}
use Rattle.amqp_resource_held.specs.declared.held.Held.{Held}
use Rattle.amqp_resource_held.proofs.Kept.{tied_taken}
use Rattle.amqp_resource_held.proofs.Looked.{pays_taken}
use Rattle.amqp_resource_held.proofs.held.drop_work.Goals as goal

pub returns-clause-ended : goal.returns-clause-ended
returns-clause-ended g c =
    let after : Held = record { work = c.drop_all.new.self; links = c.drop_on.new.links; opened = c.args.held.now.opened } in
    record {
      live = c.drop_all.ensures.kept;
      links = c.drop_on.ensures.links;
      tied = tied_taken c.args.held.now after c.args.id c.args.home c.requires c.drop_all.ensures.kept c.drop_on.ensures.ids;
      opened = refl;
    }

pub returns-clause-pays : goal.returns-clause-pays
returns-clause-pays g c = pays_taken _ _ _ _ _ c.drop_all.ensures.looked c.drop_all.ensures.dead c.drop_all.ensures.frames
