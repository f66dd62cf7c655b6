-- Laws, which a reader needn't believe: a frame of a list for which there is room leaves room for
-- the rest.
use Rattle.std.specs.Prelude.{◌≡◌, ◌+◌, false, List, [], ◌∷◌, ◌++◌, length, cond, count_by, Result, Ok, Err, refl}
use Rattle.std.proofs.Common.{arith, subst, sym}
use Rattle.std.proofs.lemmas.List.{length-append}
use Rattle.std.proofs.lemmas.List.Sums.{sum_by-cons}
use Rattle.amqp_txn_types.specs.declared.performatives.Flow.{Flow}
use Rattle.amqp_txn_types.specs.Frames.{is_transfer}
use Rattle.amqp_txn_types.specs.declared.performatives.Frame.{Frame}
use Rattle.amqp_txn_types.specs.declared.performatives.Frame.TheVariants as frames
use Rattle.amqp_below_layer.specs.declared.inner_error.SessionInnerError.{SessionInnerError}
use Rattle.amqp_below_layer.specs.declared.inner_error.SessionInnerError.TheVariants as faults
use Rattle.amqp_below_layer.specs.Reviewing.{GoesOn, StaysOn}
use Rattle.amqp_examples.specs.Bounded.{Bounded, HasRoom, Queues}

-- how many transfers a list has that begins with a frame
counted-cons : (frame : Frame) (rest : List Frame) → count_by is_transfer (frame ∷ rest)
    ≡ cond (is_transfer frame) 1 0 + count_by is_transfer rest
counted-cons frame rest = sum_by-cons (λ one. cond (is_transfer one) 1 0) frame rest

-- each frame of such a list is taken, or finds no memory
pub bounded-goes-on : (old new : Bounded) (frame : Frame)
    (answer : Result (List Frame) SessionInnerError)
    → Queues old new frame answer → GoesOn HasRoom false old new frame answer
bounded-goes-on old new (frames.Transfer transfer payload) (Ok given) gives rest room =
    let grows : length (old.messages ++ payload ∷ []) ≡ length old.messages + 1 =
    length-append old.messages (payload ∷ []) in
    let counts = counted-cons (frames.Transfer transfer payload) rest in
    subst (λ q. HasRoom q rest) (sym gives.1) (omega (arith, grows, counts, room))
bounded-goes-on old new (frames.Attach attach) (Ok given) gives rest room =
    let grows : length (old.messages ++ []) ≡ length old.messages + 0 =
    length-append old.messages [] in
    let counts = counted-cons (frames.Attach attach) rest in
    subst (λ q. HasRoom q rest) (sym gives.1) (omega (arith, grows, counts, room))
bounded-goes-on old new (frames.Flow flow) (Ok given) gives rest room =
    let grows : length (old.messages ++ []) ≡ length old.messages + 0 =
    length-append old.messages [] in
    let counts = counted-cons (frames.Flow flow) rest in
    subst (λ q. HasRoom q rest) (sym gives.1) (omega (arith, grows, counts, room))
bounded-goes-on old new (frames.Disposition disposition) (Ok given) gives rest room =
    let grows : length (old.messages ++ []) ≡ length old.messages + 0 =
    length-append old.messages [] in
    let counts = counted-cons (frames.Disposition disposition) rest in
    subst (λ q. HasRoom q rest) (sym gives.1) (omega (arith, grows, counts, room))
bounded-goes-on old new (frames.Detach detach) (Ok given) gives rest room =
    let grows : length (old.messages ++ []) ≡ length old.messages + 0 =
    length-append old.messages [] in
    let counts = counted-cons (frames.Detach detach) rest in
    subst (λ q. HasRoom q rest) (sym gives.1) (omega (arith, grows, counts, room))
bounded-goes-on old new (frames.Transfer transfer payload) (Err faults.IllegalState) gives rest room =
    let counts = counted-cons (frames.Transfer transfer payload) rest in
    absurd (omega (arith, gives.0, counts, room))
bounded-goes-on old new (frames.Transfer transfer payload) (Err faults.NoMemory) gives rest room =
    (refl, refl)
bounded-goes-on old new (frames.Transfer transfer payload) (Err error) gives rest room =
    absurd gives
bounded-goes-on old new frame (Err error) gives rest room = absurd gives

-- what changes nothing leaves the room
pub bounded-stays-on : (old new : Bounded) (answer : Result Unit SessionInnerError)
    → answer ≡ Ok tt → new ≡ old → StaysOn HasRoom false old new answer
bounded-stays-on old new (Ok done) same unchanged list room =
    subst (λ q. HasRoom q list) (sym unchanged) room
bounded-stays-on old new (Err error) same unchanged list room = absurd (cc same)

-- the same for the window
pub bounded-window : (old new : Bounded) → new ≡ old → (list : List Frame) → HasRoom old list
    → HasRoom new list
bounded-window old new unchanged list room = subst (λ q. HasRoom q list) (sym unchanged) room
