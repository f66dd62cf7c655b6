use Rattle.std.proofs.Common.{arith, subst, ◌∙◌, ◌≡◌, length, map, List, Ok, ap}
use Rattle.std.specs.List.{list_all}
use Rattle.std.proofs.lemmas.List.{length-map}
use Rattle.amqp_txn_types.specs.declared.performatives.Frame.{Frame}
use Rattle.amqp_resource_log.specs.Live.{frames_kept, kept}
use Rattle.amqp_below_layer.specs.Reviewing.{is_bare}
use Rattle.amqp_txn_types.specs.Frames.{stripped}
use Rattle.amqp_below_layer.specs.declared.verdict.Verdict.TheVariants as verdicts
use Rattle.amqp_resource_session.specs.Committing.{HandsAll, OnVetoed}
use Rattle.amqp_resource_session.proofs.Handing.{kept-bare, some-echoes}
use Rattle.amqp_resource_session.proofs.discharge.commit_frames.Goals as goal

-- as many frames are handed as were kept
count : (fs gs : List Frame) → gs ≡ map stripped fs → length gs ≡ length fs
count fs gs is = ap length is ∙ length-map fs stripped

pub hand_reviewed-requires-clause-bare : goal.hand_reviewed-requires-clause-bare
hand_reviewed-requires-clause-bare g c = ap (list_all is_bare) c.take_work-frames.ensures.frames ∙ kept-bare c.args.held.now.work c.args.id

pub hand_reviewed-requires-clause-some : goal.hand_reviewed-requires-clause-some
hand_reviewed-requires-clause-some g c = omega (arith, c.requires.some, count _ _ c.take_work-frames.ensures.frames)

pub hand_reviewed-requires-clause-room : goal.hand_reviewed-requires-clause-room
hand_reviewed-requires-clause-room g c = omega (arith, c.requires.echoes, count _ _ c.take_work-frames.ensures.frames)

pub returns-clause-hands : goal.returns-clause-hands
returns-clause-hands g c =
    subst (λ (fs : List Frame). HandsAll (g.S.Tells.told c.args.below.now) (g.S.Tells.told c.hand_reviewed.new.below) fs c.hand_reviewed.result) c.take_work-frames.ensures.frames c.hand_reviewed.ensures.hands

pub returns-clause-calls : goal.returns-clause-calls
returns-clause-calls g c = record {
  vetoed = subst (λ (fs : List Frame). OnVetoed c.hand_reviewed.result (g.S.LayerBelow.review_gives c.args.below.now c.hand_reviewed.new.below fs (Ok verdicts.Veto))) c.take_work-frames.ensures.frames c.hand_reviewed.ensures.vetoed;
  idle = some-echoes (g.S.Tells.told c.args.below.now) (g.S.Tells.told c.hand_reviewed.new.below) (frames_kept (kept c.args.held.now.work c.args.id)) c.hand_reviewed.result _
      (subst (λ (fs : List Frame). HandsAll (g.S.Tells.told c.args.below.now) (g.S.Tells.told c.hand_reviewed.new.below) fs c.hand_reviewed.result) c.take_work-frames.ensures.frames c.hand_reviewed.ensures.hands)
      c.requires.some;
}
