use Rattle.std.proofs.Common.{ap, sym, ◌∙◌, subst, List, ◌++◌, ◌∷◌, [], ◌≡◌, arith, length, ◌+◌, ◌&&◌, true}
use Rattle.std.proofs.lemmas.List.Folds.{list_all-append}
use Rattle.std.proofs.lemmas.List.{length-append}
use Rattle.amqp_below_ids.specs.Ids.{Drew}
use Rattle.amqp_resource_log.specs.Live.{Live, kept}
use Rattle.amqp_txn_types.specs.declared.id.TransactionId.{TransactionId}
use Rattle.amqp_below_ids.proofs.Draws.{Drew-append, Drew-one}
use Rattle.amqp_resource_held.specs.Draws.{all_live, is_kept}
use Rattle.amqp_resource_held.proofs.draws.draw_unused.Goals as goal

all-snoc : (live : Live) (ds : List TransactionId) (d : TransactionId) → all_live (kept live) ds ≡ true → is_kept live d ≡ true → all_live (kept live) (ds ++ d ∷ []) ≡ true
all-snoc live ds d a n = list_all-append (is_kept live) ds (d ∷ []) ∙ ap (λ b. b && (is_kept live d && true)) a ∙ ap (λ b. b && true) n

pub returns-then-not-is_live-clause-drew : goal.returns-then-not-is_live-clause-drew
returns-then-not-is_live-clause-drew g c =
    let P : List TransactionId → Type 0 = λ ds. Drew (g.G.IdSource.next c.args.ids.now) (g.G.IdSource.next c.draw-id.new.self) ds in
    subst P (sym (c.trim.ensures.ids ∙ c.push.ensures.ids))
    (Drew-append (g.G.IdSource.next c.args.ids.now) (g.G.IdSource.next c.loop-turn.ids) (g.G.IdSource.next c.draw-id.new.self) c.loop-turn.drawn.ids (c.draw-id.result ∷ [])
    c.loop-turn.invariant.drew (Drew-one (g.G.IdSource.next c.loop-turn.ids) (g.G.IdSource.next c.draw-id.new.self) c.draw-id.result c.draw-id.ensures.drawn c.draw-id.ensures.rest))

pub loop-turn-preserved : goal.loop-turn-preserved
loop-turn-preserved g c =
    let start = g.G.IdSource.next c.args.ids.now in
    let mid = g.G.IdSource.next c.loop-turn.ids in
    let end = g.G.IdSource.next c.draw-id.new.self in
    let items : c.push.new.self.ids ≡ c.loop-turn.drawn.ids ++ c.draw-id.result ∷ [] = c.push.ensures.ids in
    record {
      count = ap length items ∙ length-append c.loop-turn.drawn.ids (c.draw-id.result ∷ []) ∙ ap (λ n. n + 1) c.loop-turn.invariant.count;
      room = omega (arith, c.loop-turn.invariant.room, c.push.ensures.spare);
      all = ap (all_live (kept c.args.work.now)) items ∙ all-snoc c.args.work.now c.loop-turn.drawn.ids c.draw-id.result c.loop-turn.invariant.all (sym c.is_live.ensures ∙ c.if-not-is_live.false);
      drew =
          subst (λ (ds : List TransactionId). Drew start end ds) (sym items)
          (Drew-append start mid end c.loop-turn.drawn.ids (c.draw-id.result ∷ []) c.loop-turn.invariant.drew (Drew-one mid end c.draw-id.result c.draw-id.ensures.drawn c.draw-id.ensures.rest));
      start = c.draw-id.ensures.start ∙ c.loop-turn.invariant.start;
    }
