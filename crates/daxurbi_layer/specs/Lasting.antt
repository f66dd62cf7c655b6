-- Laws, which a reader needn't believe: a layer goes on to take the frames that it accepted.
use Rattle.std.specs.Prelude.{◌≡◌, ◌≤◌, ◌+◌, true, Option, None, Result, Ok, Err, List, ◌∷◌, length, vec_len, vec_capacity}
use Rattle.std.proofs.Common.{arith, ap, inl, inr, subst, sym, ◌∙◌}
use Rattle.amqp_txn_types.specs.declared.performatives.Flow.{Flow}
use Rattle.amqp_txn_types.specs.declared.performatives.Frame.{Frame}
use Rattle.amqp_below_layer.specs.declared.inner_error.SessionInnerError.{SessionInnerError}
use Rattle.amqp_below_layer.specs.Reviewing.{GoesOn, StaysOn}
use Rattle.daxurbi_layer.specs.Answering.{refusal_told}
use Rattle.daxurbi_layer.specs.Handing.{Answers, FrameAnswer, Hands, PlainAnswer, TakesAll}
use Rattle.daxurbi_layer.specs.Hindering.{LackedRoom}
use Rattle.daxurbi_layer.specs.declared.told_layer.ToldLayer.{ToldLayer}

-- an answer by no refusal
told_none : (o : Option SessionInnerError) (old : ToldLayer)
    (result : Result (List Frame) SessionInnerError) → o ≡ None → FrameAnswer o old result
    → FrameAnswer None old result
told_none o old result none gives = subst (λ x. FrameAnswer x old result) none gives

-- it had room
had_space : (layer : ToldLayer) (list : List Frame) (frame : Frame) (own : SessionInnerError)
    → TakesAll layer (frame ∷ list) → LackedRoom layer.refusals layer.taken own → ⊥
had_space layer list frame own all (inl (refused, is)) = omega (arith, all.fine, refused)
had_space layer list frame own all (inr (none, full, is)) = omega (arith, all.room, full)

had_room : (layer : ToldLayer) (list : List Frame) (frame : Frame) (error : SessionInnerError)
    → TakesAll layer (frame ∷ list) → FrameAnswer None layer (Err error) → ⊥
had_room layer list frame error all (own, lacked, is) = had_space layer list frame own all lacked

-- the incoming call of the first of some frames that it takes goes on to the rest
pub told-goes-on : (old new : ToldLayer) (frame : Frame)
    (answer : Result (List Frame) SessionInnerError)
    → Hands old new frame answer → GoesOn TakesAll true old new frame answer
told-goes-on old new frame (Ok given) hands rest all = record {
  told = ap refusal_told hands.answer ∙ all.told;
  fine = hands.fine ∙ all.fine;
  room = omega (arith, all.room, hands.longer, hands.capacity);
}
told-goes-on old new frame (Err error) hands rest all =
    let full = told_none (refusal_told old.answer) old (Err error) all.told hands.gives in
    absurd (had_room old rest frame error all full)

-- a check among them is Ok, and leaves the room
pub told-stays-on : (old new : ToldLayer) (answer : Result Unit SessionInnerError)
    → Answers old new answer → StaysOn TakesAll true old new answer
told-stays-on old new (Ok done) answers list all = record {
  told = ap refusal_told answers.answer ∙ all.told;
  fine = answers.fine ∙ all.fine;
  room = subst (λ v. vec_len v + length list ≤ vec_capacity v) (sym answers.taken) all.room;
}
told-stays-on old new (Err error) answers list all =
    let fine : Err error ≡ Ok tt =
    subst (λ o. PlainAnswer o (Err error)) all.told answers.gives in
    absurd (cc fine)

-- what changes nothing leaves it
pub told-window : (old new : ToldLayer) (flow : Option Flow) → (flow ≡ None) × (new ≡ old)
    → (list : List Frame) → TakesAll old list → TakesAll new list
told-window old new flow gives list all = subst (λ layer. TakesAll layer list) (sym gives.1) all
