use Rattle.std.proofs.Common.{Option, Some, None, List, cond, ap, sym, subst, ◌∙◌}
use Rattle.std.specs.Option.{option_map}
use Rattle.std.specs.HashSet.{keys}
use Rattle.amqp_resource_held.specs.declared.held.Held.{Held}
use Rattle.amqp_txn_types.specs.declared.id.TransactionId.{TransactionId}
use Rattle.amqp_resource_log.specs.Live.{kept}
use Rattle.amqp_resource_held.specs.Held.{is_among}
use Rattle.amqp_resource_held.specs.Looks.{Pays, frames_for}
use Rattle.amqp_resource_held.proofs.Kept.{ids_updated, kept_dropped, kept_ended, tied_ended}
use Rattle.amqp_resource_held.proofs.Looked.{pays_none}
use Rattle.amqp_resource_held.proofs.held.end_link.Goals as goal

pub returns-in_default-clause-live : goal.returns-in_default-clause-live
returns-in_default-clause-live g c tied =
    kept_ended c.args.held.now c.args.held.now.work c.args.link tied
    (λ t. sym (ap (λ ids. cond (is_among t (option_map keys ids)) None (kept c.args.held.now.work t)) (sym c.in_default.ensures.value)))

pub returns-clause-live : goal.returns-clause-live
returns-clause-live g c tied =
    kept_ended c.args.held.now c.drop_ids.new.work c.args.link tied
    (kept_dropped c.args.held.now.work c.drop_ids.new.work c.args.held.now.links.entries c.args.link c.in-Some.ids c.as_slice.result.now c.in-Some.ensures.value c.as_slice.ensures.keys c.drop_ids.ensures.kept)

pub returns-clause-tied : goal.returns-clause-tied
returns-clause-tied g c tied =
    let after : Held = record { work = c.drop_ids.new.work; links = c.swap_remove.new.self; opened = c.args.held.now.opened } in
    tied_ended c.args.held.now after c.args.link
    (kept_ended c.args.held.now c.drop_ids.new.work c.args.link tied
    (kept_dropped c.args.held.now.work c.drop_ids.new.work c.args.held.now.links.entries c.args.link c.in-Some.ids c.as_slice.result.now c.in-Some.ensures.value c.as_slice.ensures.keys c.drop_ids.ensures.kept))
    (ids_updated c.args.held.now.links.entries c.swap_remove.new.self.entries c.args.link None c.in-Some.ensures.updates.0) tied

pub returns-in_default-clause-pays : goal.returns-in_default-clause-pays
returns-in_default-clause-pays g c = pays_none _ _ _ _

pub returns-clause-pays : goal.returns-clause-pays
returns-clause-pays g c =
    subst (λ (ids : Option (List TransactionId)). Pays c.args.held.now.work c.drop_ids.new.work c.args.looks.now c.drop_ids.new.looks (frames_for c.args.held.now.work ids) 0)
    (ap Some c.as_slice.ensures.keys ∙ ap (option_map keys) c.in-Some.ensures.value) c.drop_ids.ensures.pays
