-- What stands of an Accept once a frame has gone through the layer.
use Rattle.std.proofs.Common.{◌≡◌, Bool, true, false, Ok, Err, Option, Result, List, [], ◌∷◌, sym, subst}
use Rattle.amqp_txn_types.specs.declared.performatives.Disposition.{Disposition}
use Rattle.amqp_txn_types.specs.declared.performatives.Flow.{Flow}
use Rattle.amqp_txn_types.specs.declared.performatives.Frame.{Frame}
use Rattle.amqp_txn_types.specs.declared.performatives.Frame.TheVariants as frames
use Rattle.amqp_below_layer.specs.declared.inner_error.SessionInnerError.{SessionInnerError}
use Rattle.amqp_below_layer.specs.Reviewing.{OnlyNoMemory, StaysOn}
use Rattle.amqp_below_layer.specs.OneFrame.{ChecksAll, ChecksFrame, ChecksTo, GivesWindow}

-- the same state takes the same frames
takes-same : {S : Type 0} (takes : S → List Frame → Type 0) (old new : S) (list : List Frame) → new ≡ old → takes old list → takes new list
takes-same {S} takes old new list same t = let P : S → Type 0 = λ s. takes s list in subst P (sym same) t

-- a frame passed the check
frame-stays-on : {S : Type 0} (takes : S → List Frame → Type 0) (sure : Bool) (check : S → S → Disposition → Result Unit SessionInnerError → Type 0)
    (stays : (old new : S) (d : Disposition) (answer : Result Unit SessionInnerError) → check old new d answer → StaysOn takes sure old new answer)
    (list : List Frame) (old new : S) (frame : Frame) → ChecksFrame check old new frame (Ok tt) → takes old list → takes new list
frame-stays-on takes sure check stays list old new (frames.Disposition d) passed t = stays old new d (Ok tt) passed list t
frame-stays-on takes sure check stays list old new (frames.Attach attach) passed t = takes-same takes old new list passed.1 t
frame-stays-on takes sure check stays list old new (frames.Flow flow) passed t = takes-same takes old new list passed.1 t
frame-stays-on takes sure check stays list old new (frames.Transfer transfer payload) passed t = takes-same takes old new list passed.1 t
frame-stays-on takes sure check stays list old new (frames.Detach detach) passed t = takes-same takes old new list passed.1 t

-- each of some frames passed the check
pub all-stay-on : {S : Type 0} (takes : S → List Frame → Type 0) (sure : Bool) (check : S → S → Disposition → Result Unit SessionInnerError → Type 0)
    (stays : (old new : S) (d : Disposition) (answer : Result Unit SessionInnerError) → check old new d answer → StaysOn takes sure old new answer)
    (list : List Frame) (old new : S) (given : List Frame) → ChecksAll check old given new → takes old list → takes new list
all-stay-on takes sure check stays list old new [] passed t = takes-same takes old new list passed t
all-stay-on takes sure check stays list old new (frame ∷ given) passed t =
    all-stay-on takes sure check stays list passed.0 new given passed.2
    (frame-stays-on takes sure check stays list old passed.0 frame passed.1 t)

-- a frame didn't pass the check: it ran out of memory
frame-wants : {S : Type 0} (takes : S → List Frame → Type 0) (sure : Bool) (check : S → S → Disposition → Result Unit SessionInnerError → Type 0)
    (stays : (old new : S) (d : Disposition) (answer : Result Unit SessionInnerError) → check old new d answer → StaysOn takes sure old new answer)
    (list : List Frame) (old new : S) (frame : Frame) (error : SessionInnerError)
    → ChecksFrame check old new frame (Err error) → takes old list → OnlyNoMemory sure error
frame-wants takes sure check stays list old new (frames.Disposition d) error refused t = (stays old new d (Err error) refused list t).wants
frame-wants takes sure check stays list old new (frames.Attach attach) error refused t = absurd (cc refused.0)
frame-wants takes sure check stays list old new (frames.Flow flow) error refused t = absurd (cc refused.0)
frame-wants takes sure check stays list old new (frames.Transfer transfer payload) error refused t = absurd (cc refused.0)
frame-wants takes sure check stays list old new (frames.Detach detach) error refused t = absurd (cc refused.0)

-- the window was asked for, or not
pub window-on : {S : Type 0} (takes : S → List Frame → Type 0) (window : S → S → Option Flow → Type 0)
    (stays : (old new : S) (flow : Option Flow) → window old new flow → (list : List Frame) → takes old list → takes new list)
    (list : List Frame) (asked : Bool) (old new : S) (flow : Option Flow) → GivesWindow window asked old new flow → takes old list → takes new list
window-on takes window stays list true old new flow gives t = stays old new flow gives list t
window-on takes window stays list false old new flow gives t = takes-same takes old new list gives.1 t

-- one of some frames didn't pass the check
pub one-wants : {S : Type 0} (takes : S → List Frame → Type 0) (sure : Bool) (check : S → S → Disposition → Result Unit SessionInnerError → Type 0)
    (stays : (old new : S) (d : Disposition) (answer : Result Unit SessionInnerError) → check old new d answer → StaysOn takes sure old new answer)
    (list : List Frame) (old new : S) (given : List Frame) (error : SessionInnerError) → ChecksTo check old given error new → takes old list → OnlyNoMemory sure error
one-wants takes sure check stays list old new given error refused t =
    frame-wants takes sure check stays list refused.3 new refused.1 error refused.6
    (all-stay-on takes sure check stays list old refused.3 refused.0 refused.5 t)
