use Rattle.std.proofs.Common.{◌≡◌, arith, refl, sym, subst, map, List, [], Ok}
use Rattle.amqp_txn_types.specs.declared.performatives.Frame.{Frame}
use Rattle.amqp_resource_log.specs.Live.{frames_kept, kept}
use Rattle.amqp_txn_types.specs.Frames.{stripped}
use Rattle.amqp_resource_session.specs.Committing.{HandsAll}
use Rattle.amqp_resource_session.proofs.Handing.{committed-with, handed-nothing, no-frames}
use Rattle.amqp_resource_session.proofs.discharge.commit_live.Goals as goal

pub returns-then-count-eq0-clause-answer : goal.returns-then-count-eq0-clause-answer
returns-then-count-eq0-clause-answer g c =
    let told = g.S.Tells.told c.args.below.now in
    let none : frames_kept (kept c.args.held.now.work c.args.id) ≡ [] = no-frames _ (omega (arith, c.count-count.ensures, c.if-count-eq0.true)) in (
      c.drop_work.ensures.ended,
      rw c.new.ensures (subst (λ (fs : List Frame). HandsAll told told (map stripped fs) (Ok (Ok []))) (sym none) (handed-nothing told)),
    )

pub returns-then-count-eq0-clause-calls : goal.returns-then-count-eq0-clause-calls
returns-then-count-eq0-clause-calls g c = rw c.new.ensures (record { vetoed = tt; idle = refl })

pub returns-clause-answer : goal.returns-clause-answer
returns-clause-answer g c =
    committed-with c.args.held.now c.commit_frames.new.held (g.S.Tells.told c.args.below.now) (g.S.Tells.told c.commit_frames.new.below) c.args.id (frames_kept (kept c.args.held.now.work c.args.id)) _ c.commit_frames.result c.commit_frames.ensures.ended c.commit_frames.ensures.hands
