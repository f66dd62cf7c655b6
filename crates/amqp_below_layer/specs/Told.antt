-- What a layer below tells, and what each of its calls does to it.
use Rattle.std.specs.Prelude.{ℕ, ◌≡◌, ◌≤◌, cond, Option, None, Result, Ok, Err, List, [], ◌∷◌, OnErr}
use Rattle.amqp_txn_types.specs.Growing.{grown}
use Rattle.amqp_txn_types.specs.declared.performatives.Attach.{Attach}
use Rattle.amqp_txn_types.specs.declared.performatives.Frame.{Frame}
use Rattle.amqp_txn_types.specs.declared.performatives.Frame.TheVariants as frames
use Rattle.amqp_below_layer.specs.declared.inner_error.SessionInnerError.{SessionInnerError}
use Rattle.amqp_below_layer.specs.Faults.{is_no_memory}
use Rattle.amqp_below_layer.specs.declared.refusal.Refusal.{Refusal}
use Rattle.amqp_txn_types.specs.declared.small.SessionState.{SessionState}
use Rattle.amqp_txn_types.specs.declared.small.SessionState.TheVariants as states
use Rattle.amqp_txn_types.specs.Counts.{Rose}
use Rattle.amqp_txn_types.specs.declared.items.NoMemory.{NoMemory}
use Rattle.amqp_below_layer.specs.declared.verdict.Verdict.{Verdict}
use Rattle.amqp_below_layer.specs.declared.verdict.Verdict.TheVariants as verdicts

-- what no call of a layer changes: the state of its session, and the numbers of the incoming frame
-- calls that it is planned to refuse, and of those that it is planned to answer with out of memory,
-- none but in a recorder
pub record Fixed : Type 0 where
  pub state : SessionState
  pub plan : List ℕ
  pub starved : List ℕ

-- what a layer tells of its reviews: how often it vetoed, and the lists that it vetoed, none where
-- it doesn't tell them
pub record Reviewed : Type 0 where
  pub vetoes : ℕ
  pub vetoed : Option (List (List Frame))

-- what a layer tells: its lists are none where it doesn't tell them
pub record Told : Type 0 where
  pub taken : Option (List (Frame × List Frame))
  pub opened : Option (List (Attach × List Frame))
  pub refused : Option (List Refusal)
  pub refusals : ℕ
  pub reviews : Reviewed
  pub fixed : Fixed

-- the reviews of a layer that vetoes nothing and tells no list
abbrev pub no_reviews : Reviewed
no_reviews = record { vetoes = 0; vetoed = None }

-- what a mapped layer tells that keeps nothing and refuses nothing
abbrev pub open_told : Told
open_told = record {
  taken = None;
  opened = None;
  refused = None;
  refusals = 0;
  reviews = no_reviews;
  fixed = record { state = states.Mapped; plan = []; starved = [] };
}

-- the same told, with another plan
abbrev pub planned : List ℕ → Told → Told
planned numbers told = record told { fixed = record told.fixed { plan = numbers } }

-- the same told, with another plan of the calls that run out of memory
abbrev pub starving : List ℕ → Told → Told
starving numbers told = record told { fixed = record told.fixed { starved = numbers } }

-- a refusal with its frame, and nothing where memory runs out
abbrev pub refusal_of : Frame → SessionInnerError → List Refusal
refusal_of frame error = cond (is_no_memory error) [] (record { frame = frame; error = error } ∷ [])

-- an Ok adds its pair
abbrev pub taken_after : Option (List (Frame × List Frame)) → Frame
    → Result (List Frame) SessionInnerError → Option (List (Frame × List Frame))
taken_after before frame (Ok given) = grown before ((frame, given) ∷ [])
taken_after before frame (Err error) = before

-- an Ok adds its pair
abbrev pub opened_after : Option (List (Attach × List Frame)) → Attach
    → Result (List Frame) SessionInnerError → Option (List (Attach × List Frame))
opened_after before attach (Ok given) = grown before ((attach, given) ∷ [])
opened_after before attach (Err error) = before

-- an Err adds its frame and error, out of memory nothing
abbrev pub refused_after : {T : Type 0} → Option (List Refusal) → Frame
    → Result T SessionInnerError → Option (List Refusal)
refused_after before frame (Ok given) = before
refused_after before frame (Err error) =
    cond (is_no_memory error) before (grown before (record { frame = frame; error = error } ∷ []))

-- an incoming frame call
pub record Takes (old new : Told) (frame : Frame)
    (result : Result (List Frame) SessionInnerError) : Type 0 where
  pub taken : new.taken ≡ taken_after old.taken frame result
  pub opened : new.opened ≡ old.opened
  pub refused : new.refused ≡ refused_after old.refused frame result
  pub reviews : new.reviews ≡ old.reviews
  pub fixed : new.fixed ≡ old.fixed
  pub later : old.refusals ≤ new.refusals
  pub cause : OnErr result (Rose old.refusals new.refusals)

-- the attach of a control link
pub record Opens (old new : Told) (attach : Attach)
    (result : Result (List Frame) SessionInnerError) : Type 0 where
  pub taken : new.taken ≡ old.taken
  pub opened : new.opened ≡ opened_after old.opened attach result
  pub refused : new.refused ≡ refused_after old.refused (frames.Attach attach) result
  pub reviews : new.reviews ≡ old.reviews
  pub fixed : new.fixed ≡ old.fixed
  pub later : old.refusals ≤ new.refusals
  pub cause : OnErr result (Rose old.refusals new.refusals)

-- no list grew, and the count didn't fall
pub record Steady (old new : Told) : Type 0 where
  pub taken : new.taken ≡ old.taken
  pub opened : new.opened ≡ old.opened
  pub refused : new.refused ≡ old.refused
  pub reviews : new.reviews ≡ old.reviews
  pub fixed : new.fixed ≡ old.fixed
  pub later : old.refusals ≤ new.refusals

-- a call that adds to no list
pub record Checks {T E : Type 0} (old new : Told) (result : Result T E) : Type 0 where
  pub steady : Steady old new
  pub cause : OnErr result (Rose old.refusals new.refusals)

-- a Veto adds the list that was reviewed
abbrev pub vetoed_after : Option (List (List Frame)) → List Frame → Result Verdict NoMemory
    → Option (List (List Frame))
vetoed_after before list (Ok verdicts.Veto) = grown before (list ∷ [])
vetoed_after before list _ = before

-- a Veto comes only where the vetoes rose, out of memory only where the refusals did
abbrev pub ReviewCause : Told → Told → Result Verdict NoMemory → Type 0
ReviewCause old new (Ok verdicts.Accept) = Unit {0}
ReviewCause old new (Ok verdicts.Veto) = Rose old.reviews.vetoes new.reviews.vetoes
ReviewCause old new (Err error) = Rose old.refusals new.refusals

-- a review: what was taken, opened and refused stays
pub record Reviews (old new : Told) (list : List Frame)
    (result : Result Verdict NoMemory) : Type 0 where
  pub taken : new.taken ≡ old.taken
  pub opened : new.opened ≡ old.opened
  pub refused : new.refused ≡ old.refused
  pub vetoed : new.reviews.vetoed ≡ vetoed_after old.reviews.vetoed list result
  pub fixed : new.fixed ≡ old.fixed
  pub later : old.refusals ≤ new.refusals
  pub counted : old.reviews.vetoes ≤ new.reviews.vetoes
  pub cause : ReviewCause old new result
