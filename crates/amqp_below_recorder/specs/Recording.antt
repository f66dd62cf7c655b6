-- What a recorder keeps of the calls of the layer in it.
use Rattle.std.specs.Prelude.{ℕ, ◌≡◌, ◌≢◌, ◌==◌, ◌||◌, ◌⊎◌, ◌++◌, Bool, true, false, cond, Some, Result, Ok, Err, List, [], ◌∷◌}
use Rattle.std.specs.List.{list_any}
use Rattle.amqp_txn_types.specs.declared.performatives.Attach.{Attach}
use Rattle.amqp_txn_types.specs.declared.performatives.Frame.{Frame}
use Rattle.amqp_txn_types.specs.Counts.{one_more}
use Rattle.amqp_txn_types.specs.declared.small.SessionState.TheVariants as session_states
use Rattle.amqp_below_layer.specs.declared.inner_error.SessionInnerError.{SessionInnerError}
use Rattle.amqp_below_layer.specs.declared.inner_error.SessionInnerError.TheVariants as faults
use Rattle.amqp_below_recorder.specs.declared.call_numbers.Planned.{Planned}
use Rattle.amqp_below_recorder.specs.declared.call_numbers.Planned.TheVariants as fates
use Rattle.amqp_below_recorder.specs.declared.recorder.Recorder.{Recorder}
use Rattle.amqp_below_layer.specs.declared.refusal.Refusal.{Refusal}
use Rattle.amqp_below_layer.specs.Told.{Told, refusal_of}
use Rattle.amqp_below_layer.specs.Inner.{Took, Opened}

-- the number is among these
abbrev pub is_among : List ℕ → ℕ → Bool
is_among numbers number = list_any (λ n. n == number) numbers

-- what the plans say of a call, by whether its number is starved and whether it is planned to be
-- refused
abbrev pub planned_by : Bool → Bool → Planned
planned_by true refused = fates.Starved
planned_by false true = fates.Refused
planned_by false false = fates.Made

-- what the plans say of the call of a number
abbrev pub planned_for : List ℕ → List ℕ → ℕ → Planned
planned_for refused starved number = planned_by (is_among starved number) (is_among refused number)

-- one of the calls that some frames would make, after so many, is planned to be refused
abbrev pub any_refused : List ℕ → ℕ → List Frame → Bool
any_refused refused calls [] = false
any_refused refused calls (frame ∷ rest) =
    is_among refused (one_more calls) || any_refused refused (one_more calls) rest

-- the layer in a recorder
abbrev pub inner_of : {S : Type 0} → Recorder S → S
inner_of r = r.session

-- the numbers of the calls that a recorder refuses
abbrev pub plan_of : {S : Type 0} → Recorder S → List ℕ
plan_of r = r.plan

-- the numbers of the calls that a recorder answers with out of memory
abbrev pub starved_of : {S : Type 0} → Recorder S → List ℕ
starved_of r = r.starved

-- how many incoming frame calls a recorder had
abbrev pub calls_of : {S : Type 0} → Recorder S → ℕ
calls_of r = r.calls

-- a recorder had no incoming call and no attach of a control link
abbrev pub is_unused : {S : Type 0} → Recorder S → Bool
is_unused r = r.unused

-- how many refusals of its own a recorder counted
abbrev pub own_of : {S : Type 0} → Recorder S → ℕ
own_of r = r.refusals

-- how many reviews its plan vetoed
abbrev pub own_vetoes_of : {S : Type 0} → Recorder S → ℕ
own_vetoes_of r = r.vetoes

-- a recorder that is Mapped, and had no incoming frame call and no attach of a control link
pub record IsFresh (unused : Bool) (told : Told) : Type 0 where
  pub no_call : unused ≡ true
  pub mapped : told.fixed.state ≡ session_states.Mapped
  pub taken : told.taken ≡ Some []
  pub opened : told.opened ≡ Some []
  pub refused : told.refused ≡ Some []

-- the plans of a recorder are set to these, and all else is kept
pub record SetsPlans {S : Type 0} (old new : Recorder S) (refusing starving : List ℕ) : Type 0 where
  pub plan : plan_of new ≡ refusing
  pub starved : starved_of new ≡ starving
  pub inner : inner_of new ≡ inner_of old
  pub calls : calls_of new ≡ calls_of old
  pub own : own_of new ≡ own_of old
  pub own_vetoes : own_vetoes_of new ≡ own_vetoes_of old
  pub unused : is_unused new ≡ is_unused old

-- what a recorder tells at first: nothing taken, opened, refused or vetoed, and the counts and the
-- state of the layer in it
abbrev pub StartsOver : Told → Told → Type 0
StartsOver inner told = told ≡ record {
  taken = Some [];
  opened = Some [];
  refused = Some [];
  refusals = inner.refusals;
  reviews = record { vetoes = inner.reviews.vetoes; vetoed = Some [] };
  fixed = record { state = inner.fixed.state; plan = []; starved = [] };
}

-- a refusal is kept with its frame, but where memory runs out; an error that can't be copied is
-- given as out of memory
abbrev pub KeepsRefusal : List Refusal → List Refusal → Frame → SessionInnerError
    → SessionInnerError → Type 0
KeepsRefusal before after frame error answer =
    ((answer ≡ error) × (after ≡ before ++ refusal_of frame error))
    ⊎ ((answer ≡ faults.NoMemory) × (after ≡ before))

-- why a call didn't reach the layer in a recorder, and what was kept of that: the plan refuses it,
-- or it is starved or there was no room
abbrev pub RefusedBefore : Planned → List Refusal → List Refusal → Frame → SessionInnerError
    → Type 0
RefusedBefore planned before after frame answer =
    ((planned ≡ fates.Refused) × (answer ≡ faults.IllegalState)
    × (after ≡ before ++ refusal_of frame faults.IllegalState))
    ⊎ ((answer ≡ faults.NoMemory) × (after ≡ before))

-- the frames given back were kept with their frame, and no refusal
pub record KeepsTaken (kept kept_after : List (Frame × List Frame))
    (refused refused_after : List Refusal)
    (own own_after : ℕ) (frame : Frame) (given out : List Frame) : Type 0 where
  pub out_is : out ≡ given
  pub kept_is : kept_after ≡ kept ++ (frame, given) ∷ []
  pub refused_is : refused_after ≡ refused
  pub own_is : own_after ≡ own

-- the frames given back, which are some, couldn't be copied, and nothing was kept
pub record CopyFails (kept kept_after : List (Frame × List Frame))
    (refused refused_after : List Refusal)
    (own own_after : ℕ) (given : List Frame) (error : SessionInnerError) : Type 0 where
  pub some : given ≢ []
  pub error_is : error ≡ faults.NoMemory
  pub kept_is : kept_after ≡ kept
  pub refused_is : refused_after ≡ refused
  pub own_is : own_after ≡ one_more own

-- a refusal of the layer was kept
pub record PassesRefusal (kept kept_after : List (Frame × List Frame))
    (refused refused_after : List Refusal)
    (own own_after : ℕ) (frame : Frame) (error answer : SessionInnerError) : Type 0 where
  pub keeps : KeepsRefusal refused refused_after frame error answer
  pub kept_is : kept_after ≡ kept
  pub own_is : own_after ≡ own

-- what was kept of the layer's answer, and what was answered for it
abbrev pub KeepsAnswer : List (Frame × List Frame) → List (Frame × List Frame) → List Refusal
    → List Refusal → ℕ → ℕ → Frame
    → Result (List Frame) SessionInnerError → Result (List Frame) SessionInnerError → Type 0
KeepsAnswer kept kept' refused refused' own own' frame (Ok given) (Ok out) =
    KeepsTaken kept kept' refused refused' own own' frame given out
KeepsAnswer kept kept' refused refused' own own' frame (Ok given) (Err error) =
    CopyFails kept kept' refused refused' own own' given error
KeepsAnswer kept kept' refused refused' own own' frame (Err error) (Ok out) = ⊥
KeepsAnswer kept kept' refused refused' own own' frame (Err error) (Err answer) =
    PassesRefusal kept kept' refused refused' own own' frame error answer

-- why a recorder answered an Err, by what the layer in it was asked and answered, and whether its
-- own count rose
pub data WhyErr (Inner : Result (List Frame) SessionInnerError → Type 0) (Untouched : Type 0)
    (planned : Planned) : SessionInnerError → Bool → Type 0 where
  -- the plan refuses the call, which doesn't reach the layer
  planned_so : planned ≡ fates.Refused → Untouched
      → WhyErr Inner Untouched planned faults.IllegalState true
  -- the call is starved, or there was no room before it
  no_room : Untouched → WhyErr Inner Untouched planned faults.NoMemory true
  -- the layer's own answer
  passed : (error : SessionInnerError) → planned ≡ fates.Made → Inner (Err error)
      → WhyErr Inner Untouched planned error false
  -- the layer's error could not be copied
  error_uncopied : (error : SessionInnerError) → planned ≡ fates.Made → Inner (Err error)
      → WhyErr Inner Untouched planned faults.NoMemory false
  -- the layer took the frame, and the frames given back, which are some, could not be copied
  given_uncopied : (given : List Frame) → given ≢ [] → planned ≡ fates.Made → Inner (Ok given)
      → WhyErr Inner Untouched planned faults.NoMemory true

-- one more where it rose
abbrev pub risen : Bool → ℕ → ℕ
risen rose count = cond rose (one_more count) count

-- the answer of a recorder and its own count of refusals, by the answer of the layer in it
abbrev pub Recorded : (Result (List Frame) SessionInnerError → Type 0) → Type 0 → Planned → ℕ → ℕ
    → Result (List Frame) SessionInnerError → Type 0
Recorded Inner Untouched planned own own_after (Ok given) =
    (planned ≡ fates.Made) × Inner (Ok given) × (own_after ≡ own)
Recorded Inner Untouched planned own own_after (Err error) =
    (rose : Bool) × WhyErr Inner Untouched planned error rose × (own_after ≡ risen rose own)

-- a call leaves the plans, and how many reviews they vetoed
pub record SamePlans {S : Type 0} (old new : Recorder S) : Type 0 where
  pub plan : plan_of new ≡ plan_of old
  pub starved : starved_of new ≡ starved_of old
  pub vetoes : own_vetoes_of new ≡ own_vetoes_of old

-- one incoming frame call of a recorder, which counts it
pub record RecordsCall {S : Type 0} (told : S → Told)
    (gives : S → S → Frame → Result (List Frame) SessionInnerError → Type 0)
    (old new : Recorder S) (frame : Frame)
    (result : Result (List Frame) SessionInnerError) : Type 0 where
  pub recorded :
      Recorded (Took told gives (inner_of old) (inner_of new) frame) (inner_of new ≡ inner_of old)
      (planned_for (plan_of old) (starved_of old) (calls_of new)) (own_of old) (own_of new) result
  pub calls : calls_of new ≡ one_more (calls_of old)
  pub plans : SamePlans old new
  pub used : is_unused new ≡ false

-- the attach of a control link through a recorder, which no plan refuses
pub record RecordsOpen {S : Type 0} (told : S → Told)
    (gives : S → S → Attach → Result (List Frame) SessionInnerError → Type 0)
    (old new : Recorder S) (attach : Attach)
    (result : Result (List Frame) SessionInnerError) : Type 0 where
  pub recorded :
      Recorded (Opened told gives (inner_of old) (inner_of new) attach)
      (inner_of new ≡ inner_of old)
      fates.Made (own_of old) (own_of new) result
  pub calls : calls_of new ≡ calls_of old
  pub plans : SamePlans old new
  pub used : is_unused new ≡ false

-- a call that goes to the layer in a recorder and changes nothing of the recorder
pub record PassesOn {S : Type 0} (old new : Recorder S) : Type 0 where
  pub own : own_of new ≡ own_of old
  pub calls : calls_of new ≡ calls_of old
  pub plans : SamePlans old new
  pub unused : is_unused new ≡ is_unused old

-- a call that the layer in a recorder answers, by what that told and answered
pub record Passes {S : Type 0} (Tells Gives : S → S → Type 0) (old new : Recorder S) : Type 0 where
  pub tells : Tells (inner_of old) (inner_of new)
  pub answered : Gives (inner_of old) (inner_of new)
  pub kept : PassesOn old new
