use Rattle.amqp_resource_log.proofs.Words.{ap, arith, frame_of_work, frames_in, is_some, length, map, stripped, suc, take, ◌++◌, ◌+◌, ◌<◌, ◌≤◌, ◌∙◌, ◌∷◌, ◌≡◌, []}
use Rattle.std.proofs.Common.{rules}
use Rattle.amqp_resource_log.proofs.Copying.{all_copied, copied_few, copied_more, placed_at}
use Rattle.amqp_resource_log.proofs.copies.copy_places.Goals as goal

pub lend-requires : goal.lend-requires
lend-requires g c =
    let within : c.loop-at.at < length c.args.places.now.items = search rules in
    ap is_some (placed_at c.args.id.now c.args.cells.now.cells c.args.places.now.items c.loop-at.at c.index.result.now c.requires within c.index.ensures).at

pub returns-in_err-copy-clause-looks : goal.returns-in_err-copy-clause-looks
returns-in_err-copy-clause-looks g c =
    let within : c.loop-at.at + 1 ≤ length c.args.places.now.items = search rules in
    let few = copied_few c.args.id.now c.args.cells.now.cells c.args.places.now.items (c.loop-at.at + 1) c.requires within in
    omega (arith, few, c.lend.ensures.looks, c.loop-at.invariant.looks)

pub returns-in_err-push-clause-looks : goal.returns-in_err-push-clause-looks
returns-in_err-push-clause-looks g c =
    let within : c.loop-at.at + 1 ≤ length c.args.places.now.items = search rules in
    let few = copied_few c.args.id.now c.args.cells.now.cells c.args.places.now.items (c.loop-at.at + 1) c.requires within in
    omega (arith, few, c.lend.ensures.looks, c.loop-at.invariant.looks)

pub loop-at-preserved : goal.loop-at-preserved
loop-at-preserved g c =
    let fs = frames_in c.args.cells.now.cells c.args.id.now in
    let within : c.loop-at.at < length c.args.places.now.items = search rules in
    let it = placed_at c.args.id.now c.args.cells.now.cells c.args.places.now.items c.loop-at.at c.index.result.now c.requires within c.index.ensures in
    let both = c.lend.ensures.work ∙ it.at in
    let lent : c.lend.result.now ≡ it.work = cc in
    let pushed : c.push.new.self.items ≡ c.loop-at.list.items ++ c.strip.result ∷ [] = search rules in
    let copied : c.in_ok-copy.copy ≡ c.lend.result.now = search rules in
    let on : suc c.loop-at.at ≡ c.loop-at.at + 1 = omega arith in
    record {
      list =
          pushed ∙ ap (λ gs. gs ++ c.strip.result ∷ []) c.loop-at.invariant.list
          ∙ ap (λ f. map stripped (take c.loop-at.at fs) ++ f ∷ []) (c.strip.ensures ∙ ap (λ w. stripped (frame_of_work w)) (copied ∙ lent))
          ∙ copied_more fs c.loop-at.at (frame_of_work it.work) it.frame
          ∙ ap (λ n. map stripped (take n fs)) on;
      looks = omega (arith, c.lend.ensures.looks, c.loop-at.invariant.looks);
    }

pub returns-clause-list : goal.returns-clause-list
returns-clause-list g c =
    let past : length c.args.places.now.items ≤ c.loop-at.at = search rules in
    c.loop-at.invariant.list ∙ (all_copied c.args.id.now c.args.cells.now.cells c.args.places.now.items c.loop-at.at c.requires past)

pub returns-clause-looks : goal.returns-clause-looks
returns-clause-looks g c =
    let within : c.loop-at.at ≤ length c.args.places.now.items = search rules in
    let few = copied_few c.args.id.now c.args.cells.now.cells c.args.places.now.items c.loop-at.at c.requires within in
    omega (arith, few, c.loop-at.invariant.looks)
