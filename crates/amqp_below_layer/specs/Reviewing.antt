-- What a review promises: which frames it is asked about, and what the calls that follow an Accept
-- answer.
use Rattle.std.specs.Prelude.{◌≡◌, Bool, true, false, not, List, [], ◌∷◌, Result, Ok, Err}
use Rattle.amqp_txn_types.specs.declared.items.NoMemory.{NoMemory}
use Rattle.amqp_txn_types.specs.declared.performatives.Frame.{Frame}
use Rattle.amqp_txn_types.specs.declared.performatives.Frame.TheVariants as frames
use Rattle.amqp_txn_types.specs.Frames.{is_under_txn}
use Rattle.amqp_below_layer.specs.Faults.{is_no_memory}
use Rattle.amqp_below_layer.specs.declared.answers.Answers.{Answers}
use Rattle.amqp_below_layer.specs.declared.inner_error.SessionInnerError.{SessionInnerError}
use Rattle.amqp_below_layer.specs.declared.take.TakeError.{TakeError}
use Rattle.amqp_below_layer.specs.declared.verdict.Verdict.{Verdict}
use Rattle.amqp_below_layer.specs.declared.verdict.Verdict.TheVariants as verdicts

-- work as it is handed: a transfer or a disposition without a transactional state (4.4,
-- Transactional Work)
abbrev pub is_bare : Frame → Bool
is_bare (frames.Transfer transfer payload) = not (is_under_txn transfer.state)
is_bare (frames.Disposition disposition) = not (is_under_txn disposition.state)
is_bare _ = false

-- the one answer beside Ok is out of memory, and a sure layer doesn't give that either
abbrev pub OnlyNoMemory : Bool → SessionInnerError → Type 0
OnlyNoMemory sure error = (is_no_memory error ≡ true) × (sure ≡ false)

-- an Accept gives this
abbrev pub OnAccept : Result Verdict NoMemory → Type 0 → Type 0
OnAccept (Ok verdicts.Accept) promise = promise
OnAccept _ promise = Unit {0}

-- a call after an Accept: an Ok leaves this, and an Err is out of memory
abbrev pub Lasts : {T : Type 0} → Bool → Type 0 → Result T SessionInnerError → Type 0
Lasts sure left (Ok value) = left
Lasts sure left (Err error) = OnlyNoMemory sure error

-- the frame through the layer after an Accept: an Ok leaves this, and an Err is out of memory
abbrev pub LastsThrough : Bool → Type 0 → Result Answers TakeError → Type 0
LastsThrough sure left (Ok answers) = left
LastsThrough sure left (Err refusal) = OnlyNoMemory sure refusal.error

-- the incoming call of the first of some frames that the layer takes goes on to the rest of them
abbrev pub GoesOn : {S : Type 0} → (S → List Frame → Type 0) → Bool → S → S → Frame
    → Result (List Frame) SessionInnerError → Type 0
GoesOn takes sure old new frame result =
    (rest : List Frame) → takes old (frame ∷ rest) → Lasts sure (takes new rest) result

-- this stays, and memory lacked
pub record StaysWanting (sure : Bool) (left : Type 0) (error : SessionInnerError) : Type 0 where
  pub stays : left
  pub wants : OnlyNoMemory sure error

-- a check after an Accept: this stays, and an Err is out of memory
abbrev pub Stays : Bool → Type 0 → Result Unit SessionInnerError → Type 0
Stays sure left (Ok done) = left
Stays sure left (Err error) = StaysWanting sure left error

-- a check among frames that the layer takes leaves that it takes them
abbrev pub StaysOn : {S : Type 0} → (S → List Frame → Type 0) → Bool → S → S
    → Result Unit SessionInnerError → Type 0
StaysOn takes sure old new result =
    (list : List Frame) → takes old list → Stays sure (takes new list) result

-- the first of some frames that the layer takes, all the way through it, goes on to the rest of
-- them
abbrev pub TakesOn : {S : Type 0} → (S → List Frame → Type 0) → Bool → S → S → Frame
    → Result Answers TakeError → Type 0
TakesOn takes sure old new frame result =
    (rest : List Frame) → takes old (frame ∷ rest) → LastsThrough sure (takes new rest) result

-- a layer that takes every list, and refuses nothing
pub always-goes-on : {S : Type 0} (old new : S) (frame : Frame)
    (result : Result (List Frame) SessionInnerError)
    → result ≡ Ok [] → GoesOn (λ s list. Unit {0}) true old new frame result
always-goes-on old new frame (Ok given) same rest takes = tt
always-goes-on old new frame (Err error) same rest takes = absurd (cc same)

-- a layer that takes every list, and checks nothing
pub always-stays-on : {S : Type 0} (old new : S) (result : Result Unit SessionInnerError)
    → result ≡ Ok tt → StaysOn (λ s list. Unit {0}) true old new result
always-stays-on old new (Ok done) same list takes = tt
always-stays-on old new (Err error) same list takes = absurd (cc same)
