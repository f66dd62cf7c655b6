use Rattle.amqp_resource_log.proofs.Words.{Kept, Live, Option, Some, [], ap, cond, count_by, frame_count, frames_of, is_live_cell, is_some, is_some-lookup, kept, keys_of, live_ids, lookup, same_id, sym, ◌++◌, ◌∙◌, ◌∷◌}
use Rattle.amqp_resource_log.proofs.Kept.{keys-append}
use Rattle.amqp_resource_log.proofs.Live.{agrees_added, is_kept, kept_added}
use Rattle.amqp_resource_log.proofs.Counting.{same_count}
use Rattle.amqp_resource_log.proofs.live_work.LiveWork.add.Goals as goal

pub invariant_of-self : goal.invariant_of-self
invariant_of-self c =
    agrees_added c.self.inside.log.homes c.open_on.new.self.homes c.self.inside.log c.open_on.new.self c.args.txn_id c.args.home c.self.invariant c.in-Ok.ensures.found c.open_on.ensures.cells c.open_on.ensures.distinct

pub returns-clause-kept : goal.returns-clause-kept
returns-clause-kept c t =
    kept_added c.self.inside.log.homes c.open_on.new.self.homes c.self.inside.log c.open_on.new.self c.args.txn_id c.args.home c.in-Ok.ensures.found c.open_on.ensures.cells c.open_on.ensures.fresh t
    ∙ ap (λ (live : Live). cond {A = Option Kept} (same_id t c.args.txn_id) (Some (c.args.home, [])) (kept live t)) c.self.view_is

pub returns-clause-frames : goal.returns-clause-frames
returns-clause-frames c =
    let homes = c.self.inside.log.homes in
    let log = c.self.inside.log in
    let after = agrees_added homes c.open_on.new.self.homes log c.open_on.new.self c.args.txn_id c.args.home c.self.invariant c.in-Ok.ensures.found c.open_on.ensures.cells c.open_on.ensures.distinct in
    same_count homes c.open_on.new.self.homes log c.open_on.new.self c.self.invariant after (ap (λ cs. count_by is_live_cell cs) c.open_on.ensures.cells) ∙ ap frame_count c.self.view_is

pub returns-clause-ids : goal.returns-clause-ids
returns-clause-ids c =
    ap keys_of c.in-Ok.ensures.homes ∙ keys-append c.self.inside.log.homes c.args.txn_id c.args.home
    ∙ ap (λ (live : Live). live_ids live ++ c.args.txn_id ∷ []) c.self.view_is

pub open_on-requires : goal.open_on-requires
open_on-requires c =
    let log = c.self.inside.log in
    let id = c.args.txn_id in
    sym (is_some-lookup (same_id id) log.homes) ∙ is_kept (frames_of log id) (lookup (same_id id) log.homes)
    ∙ ap (λ (live : Live). is_some (kept live id)) c.self.view_is ∙ ap is_some c.requires.unused
