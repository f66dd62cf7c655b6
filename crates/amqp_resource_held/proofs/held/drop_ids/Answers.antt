use Rattle.std.proofs.Common.{◌≤◌, ap, sym, ◌∙◌, ◌||◌, cond, length, subst, take, Option, None, arith}
use Rattle.std.specs.List.{list_any}
use Rattle.std.proofs.lemmas.List.Folds.{list_any_more}
use Rattle.amqp_resource_log.specs.Live.{frames_kept, kept, Kept}
use Rattle.amqp_txn_types.specs.Ids.{same_id}
use Rattle.amqp_resource_held.proofs.Kept.{gone_more}
use Rattle.amqp_resource_held.proofs.Looked.{fewer, summed_more}
use Rattle.amqp_resource_held.proofs.held.drop_ids.Goals as goal

pub loop-id-preserved : goal.loop-id-preserved
loop-id-preserved g c =
    let i = c.loop-id.id-index in
    let id = c.id-item.result in
    let gone = list_any (same_id id) (take i c.args.ids.now) in
    let most : length (frames_kept (kept c.loop-id.work id)) ≤ length (frames_kept (kept c.args.work.now id)) =
    subst (λ (o : Option Kept). length (frames_kept o) ≤ length (frames_kept (kept c.args.work.now id))) (sym (c.loop-id.invariant.kept id)) (fewer gone (kept c.args.work.now id)) in
    let more = summed_more (λ t. length (frames_kept (kept c.args.work.now t))) c.args.ids.now i id (omega arith) c.id-item.is in
    let taken = c.drop_all.ensures in
    record {
      kept = λ t.
          taken.kept t
          ∙ ap (λ o. cond (same_id t id) None o) (c.loop-id.invariant.kept t)
          ∙ gone_more (list_any (same_id t) (take i c.args.ids.now)) (same_id t id) (kept c.args.work.now t)
          ∙ sym (ap (λ b. cond b None (kept c.args.work.now t)) (list_any_more (same_id t) c.args.ids.now i id (omega arith) ∙ ap (λ x. list_any (same_id t) (take i c.args.ids.now) || same_id t x) (sym c.id-item.is)));
      pays = record {
        ended = omega (arith, c.loop-id.invariant.pays.ended, taken.looked, taken.dead, most, more);
        all = omega (arith, c.loop-id.invariant.pays.all, taken.looked, taken.dead, taken.frames);
      };
    }
