use Rattle.std.proofs.Common.{arith, ap, refl, length, map, ◌++◌, ◌∙◌}
use Rattle.amqp_resource_held.specs.declared.held.Held.{Held}
use Rattle.amqp_resource_log.specs.Live.{frames_kept, kept}
use Rattle.amqp_txn_types.specs.Frames.{stripped}
use Rattle.amqp_resource_held.proofs.Kept.{tied_taken}
use Rattle.amqp_resource_held.proofs.Looked.{pays_taken}
use Rattle.amqp_resource_held.proofs.held.take_work.Goals as goal

pub take_all-frames-requires : goal.take_all-frames-requires
take_all-frames-requires g c = omega (arith, ap length c.requires.none, c.requires.room)

pub returns-clause-frames : goal.returns-clause-frames
returns-clause-frames g c =
    c.from_vec.ensures ∙ c.take_all-frames.ensures.list
    ∙ ap (λ fs. fs ++ map stripped (frames_kept (kept c.args.held.now.work c.args.id))) c.requires.none

pub returns-clause-ended : goal.returns-clause-ended
returns-clause-ended g c =
    let gone = c.take_all-frames.ensures.gone in
    let after : Held = record { work = c.take_all-frames.new.self; links = c.drop_on.new.links; opened = c.args.held.now.opened } in
    record {
      live = gone.kept;
      links = c.drop_on.ensures.links;
      tied = tied_taken c.args.held.now after c.args.id c.args.home c.requires.home gone.kept c.drop_on.ensures.ids;
      opened = refl;
    }

pub returns-clause-pays : goal.returns-clause-pays
returns-clause-pays g c =
    let gone = c.take_all-frames.ensures.gone in
    pays_taken _ _ _ _ _ gone.looked gone.dead gone.frames
