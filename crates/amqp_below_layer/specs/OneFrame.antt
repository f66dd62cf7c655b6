-- What taking one frame does to the layer below.
use Rattle.std.specs.Prelude.{◌≡◌, ◌≤◌, Bool, true, false, cond, Option, None, Result, Ok, Err, List, [], ◌∷◌, ◌++◌, length, OnErr}
use Rattle.std.specs.List.{zip}
use Rattle.amqp_txn_types.specs.declared.performatives.Disposition.{Disposition}
use Rattle.amqp_txn_types.specs.declared.performatives.Flow.{Flow}
use Rattle.amqp_txn_types.specs.declared.performatives.Frame.{Frame}
use Rattle.amqp_txn_types.specs.declared.performatives.Frame.TheVariants as frames
use Rattle.amqp_txn_types.specs.Frames.{is_transfer}
use Rattle.amqp_below_layer.specs.declared.inner_error.SessionInnerError.{SessionInnerError}
use Rattle.amqp_below_layer.specs.declared.answers.Answers.{Answers}
use Rattle.amqp_below_layer.specs.declared.refusal.Refusal.{Refusal}
use Rattle.amqp_below_layer.specs.Told.{Told, refusal_of}
use Rattle.amqp_txn_types.specs.Growing.{grown}
use Rattle.amqp_txn_types.specs.Counts.{Rose}
use Rattle.amqp_below_layer.specs.Windows.{WindowFits}
use Rattle.amqp_below_layer.specs.declared.take.TakeError.{TakeError}

-- these frames were taken, whatever was given back for them
abbrev pub TookFrames : Option (List (Frame × List Frame)) → Option (List (Frame × List Frame))
    → List Frame → Type 0
TookFrames old new handed =
    (given : List (List Frame)) × (length given ≡ length handed)
    × (new ≡ grown old (zip handed given))

-- the frame, where it was taken
abbrev pub taken_frames : Bool → Frame → List Frame
taken_frames true frame = frame ∷ []
taken_frames false frame = []

-- what was taken, by the answer
abbrev pub TookAnswer : Option (List (Frame × List Frame)) → Option (List (Frame × List Frame))
    → Frame → Result Answers TakeError → Type 0
TookAnswer old new frame (Ok answers) =
    (new ≡ grown old ((frame, answers.given) ∷ [])) × WindowFits frame answers
TookAnswer old new frame (Err refused) = TookFrames old new (taken_frames refused.taken frame)

-- what was refused, by the answer: a frame that was taken has an answer of its own refused, which
-- no list shows
abbrev pub refused_frame : Frame → Result Answers TakeError → List Refusal
refused_frame frame (Ok answers) = []
refused_frame frame (Err refused) = cond refused.taken [] (refusal_of frame refused.error)

-- one frame through the layer below
pub record TakesFrame (old new : Told) (frame : Frame)
    (result : Result Answers TakeError) : Type 0 where
  pub taken : TookAnswer old.taken new.taken frame result
  pub opened : new.opened ≡ old.opened
  pub refused : new.refused ≡ grown old.refused (refused_frame frame result)
  pub reviews : new.reviews ≡ old.reviews
  pub fixed : new.fixed ≡ old.fixed
  pub later : old.refusals ≤ new.refusals
  pub cause : OnErr result (Rose old.refusals new.refusals)

-- ---- the calls that one frame makes, by what each gives and leaves

-- a disposition is checked, any other frame passes
abbrev pub ChecksFrame : {S : Type 0}
    → (S → S → Disposition → Result Unit SessionInnerError → Type 0) → S → S → Frame
    → Result Unit SessionInnerError → Type 0
ChecksFrame gives old new (frames.Disposition disposition) result =
    gives old new disposition result
ChecksFrame gives old new other result = (result ≡ Ok tt) × (new ≡ old)

-- each of these frames passed, in order
abbrev pub ChecksAll : {S : Type 0}
    → (S → S → Disposition → Result Unit SessionInnerError → Type 0) → S → List Frame → S → Type 0
ChecksAll gives old [] new = new ≡ old
ChecksAll {S} gives old (frame ∷ rest) new =
    (between : S) × ChecksFrame gives old between frame (Ok tt) × ChecksAll gives between rest new

-- one of these frames was refused; those before it passed
abbrev pub ChecksTo : {S : Type 0} → (S → S → Disposition → Result Unit SessionInnerError → Type 0)
    → S → List Frame → SessionInnerError → S → Type 0
ChecksTo {S} gives old given error new =
    (before : List Frame) × (frame : Frame) × (after : List Frame) × (between : S)
    × (given ≡ before ++ frame ∷ after) × ChecksAll gives old before between
    × ChecksFrame gives between new frame (Err error)

-- the checks of the frames given back, by the answer
abbrev pub ChecksGiven : {S : Type 0}
    → (S → S → Disposition → Result Unit SessionInnerError → Type 0) → S → S → List Frame
    → Result Unit SessionInnerError → Type 0
ChecksGiven gives old new given (Ok done) = ChecksAll gives old given new
ChecksGiven gives old new given (Err error) = ChecksTo gives old given error new

-- the window is asked for after a transfer alone
abbrev pub GivesWindow : {S : Type 0} → (S → S → Option Flow → Type 0) → Bool → S → S → Option Flow
    → Type 0
GivesWindow gives true old new flow = gives old new flow
GivesWindow gives false old new flow = (flow ≡ None) × (new ≡ old)

-- the frame was taken, the dispositions given back passed, and then the window was asked for
abbrev pub PassesThrough : {S : Type 0}
    → (S → S → Frame → Result (List Frame) SessionInnerError → Type 0)
    → (S → S → Disposition → Result Unit SessionInnerError → Type 0)
    → (S → S → Option Flow → Type 0) → S → S → Frame → Answers → Type 0
PassesThrough {S} incoming check window old new frame answers =
    (taken : S) × (checked : S) × incoming old taken frame (Ok answers.given)
    × ChecksAll check taken answers.given checked
    × GivesWindow window (is_transfer frame) checked new answers.window

-- the frame was refused, or taken and then a disposition given back was refused
abbrev pub RefusedThrough : {S : Type 0}
    → (S → S → Frame → Result (List Frame) SessionInnerError → Type 0)
    → (S → S → Disposition → Result Unit SessionInnerError → Type 0) → S → S → Frame → Bool
    → SessionInnerError → Type 0
RefusedThrough incoming check old new frame false error = incoming old new frame (Err error)
RefusedThrough {S} incoming check old new frame true error =
    (taken : S) × (given : List Frame) × incoming old taken frame (Ok given)
    × ChecksTo check taken given error new

-- one frame: the incoming call of its kind, the checks, the window, and nothing else
abbrev pub TakesThrough : {S : Type 0}
    → (S → S → Frame → Result (List Frame) SessionInnerError → Type 0)
    → (S → S → Disposition → Result Unit SessionInnerError → Type 0)
    → (S → S → Option Flow → Type 0) → S → S → Frame → Result Answers TakeError → Type 0
TakesThrough incoming check window old new frame (Ok answers) =
    PassesThrough incoming check window old new frame answers
TakesThrough incoming check window old new frame (Err refused) =
    RefusedThrough incoming check old new frame refused.taken refused.error
