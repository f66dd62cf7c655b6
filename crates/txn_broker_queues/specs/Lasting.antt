-- A broker goes on to take the frames that it accepted: the law of `LayerBelow` on incoming frames.
use Rattle.std.specs.Prelude.{◌≡◌, ◌+◌, ◌++◌, ◌&&◌, ◌||◌, Bool, true, false, cond, Option, Some, Result, Ok, Err, List, [], ◌∷◌, count_by, is_some, map}
use Rattle.std.specs.List.{list_all}
use Rattle.std.proofs.Common.{ap, arith, inl, inr, refl, subst, sym, ◌∙◌}
use Rattle.std.proofs.lemmas.List.{map_push}
use Rattle.std.proofs.lemmas.List.Sums.{sum_by-cons}
use Rattle.amqp_txn_types.specs.declared.performatives.Frame.{Frame}
use Rattle.amqp_txn_types.specs.declared.performatives.Frame.TheVariants as frames
use Rattle.amqp_txn_types.specs.Frames.{is_transfer}
use Rattle.amqp_below_layer.specs.declared.inner_error.SessionInnerError.{SessionInnerError}
use Rattle.amqp_below_layer.specs.Reviewing.{GoesOn, StaysOn}
use Rattle.txn_broker_queues.specs.Given.{any_refused, refusal}
use Rattle.txn_broker_queues.specs.Taking.{Board, Lacks, Takes, TakesAll, is_work, message_need, taken_of}

and_right : (a b : Bool) → (a && b) ≡ true → b ≡ true
and_right true b e = e
and_right false b e = absurd (cc e)

or_left : (a b : Bool) → (a || b) ≡ false → a ≡ false
or_left true b e = absurd (cc e)
or_left false b e = refl

or_right : (a b : Bool) → (a || b) ≡ false → b ≡ false
or_right true b e = absurd (cc e)
or_right false b e = e

-- the frames that were taken, with one more pair
pub taken_more : (board : Board) (new : List (Frame × List Frame)) (frame : Frame) (given : List Frame)
    → new ≡ board.journal ++ (frame, given) ∷ []
    → map (λ (pair : Frame × List Frame). pair.0) new ≡ taken_of board ++ frame ∷ []
taken_more board new frame given e =
    ap (map (λ (pair : Frame × List Frame). pair.0)) e
    ∙ map_push (λ (pair : Frame × List Frame). pair.0) board.journal (frame, given)

-- a frame and the rest need so much room for messages
count_need : (frame : Frame) (rest : List Frame)
    → count_by is_transfer (frame ∷ rest) ≡ message_need frame + count_by is_transfer rest
count_need frame rest = sum_by-cons (λ (x : Frame). cond (is_transfer x) 1 0) frame rest

-- room for frames that are taken doesn't lack
lacks_none : (board : Board) (frame : Frame) (rest : List Frame) → Lacks board frame
    → TakesAll board (frame ∷ rest) → ⊥
lacks_none board (frames.Attach attach) rest lacks all =
    let un : false ≡ true = all.work in absurd (cc un)
lacks_none board (frames.Flow flow) rest lacks all =
    let un : false ≡ true = all.work in absurd (cc un)
lacks_none board (frames.Transfer transfer payload) rest lacks all =
    let need = count_need (frames.Transfer transfer payload) rest in
    elim lacks [
      | inl none ↦ omega (arith, all.room, none)
      | inr none ↦ omega (arith, all.message_room, need, none)
    ]
lacks_none board (frames.Disposition d) rest none all = omega (arith, all.room, none)
lacks_none board (frames.Detach detach) rest lacks all =
    let un : false ≡ true = all.work in absurd (cc un)

some_refused : (o : Option SessionInnerError) (error : SessionInnerError) → o ≡ Some error
    → is_some o ≡ false → ⊥
some_refused o error is un =
    let so : true ≡ false = sym (ap (λ x. is_some x) is) ∙ un in absurd (cc so)

-- the incoming call of the first of some frames that it takes goes on to the rest
pub broker-goes-on : (old new : Board) (frame : Frame) (answer : Result (List Frame) SessionInnerError)
    → Takes old new frame answer → GoesOn TakesAll true old new frame answer
broker-goes-on old new frame (Ok given) took rest all = record {
  work = and_right (is_work frame) (list_all is_work rest) all.work;
  unrefused =
      ap (λ taken. any_refused taken rest) (taken_more old new.journal frame given took.journal)
      ∙ or_right (is_some (refusal (taken_of old) frame))
      (any_refused (taken_of old ++ frame ∷ []) rest) all.unrefused;
  room = omega (arith, all.room, took.room);
  message_room = omega (arith, all.message_room, took.message_room, count_need frame rest);
}
broker-goes-on old new frame (Err error) not rest all = absurd (elim not.0.why [
  | inl refused ↦
      some_refused (refusal (taken_of old) frame) error refused
      (or_left (is_some (refusal (taken_of old) frame))
      (any_refused (taken_of old ++ frame ∷ []) rest) all.unrefused)
  | inr lacked ↦ lacks_none old frame rest lacked.2 all
])

-- what is taken is still taken where nothing changed
pub kept-takes : (old new : Board) (list : List Frame) → new ≡ old → TakesAll old list → TakesAll new list
kept-takes old new list same all = subst (λ board. TakesAll board list) (sym same) all

-- a check is Ok, and changes nothing
pub broker-stays-on : (old new : Board) (answer : Result Unit SessionInnerError)
    → (answer ≡ Ok tt) × (new ≡ old) → StaysOn TakesAll true old new answer
broker-stays-on old new (Ok done) gives list all = kept-takes old new list gives.1 all
broker-stays-on old new (Err error) gives list all = absurd (cc gives.0)
