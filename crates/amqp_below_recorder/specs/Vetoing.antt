-- What a recorder answers to a review, and the laws of what it takes after an Accept.
use Rattle.std.specs.Prelude.{ℕ, ◌≡◌, ◌||◌, ◌⊎◌, Bool, true, false, Result, Ok, Err, IsErr, List}
use Rattle.std.proofs.Common.{refl, ap, ◌∙◌}
use Rattle.amqp_txn_types.specs.Counts.{one_more}
use Rattle.amqp_txn_types.specs.declared.items.NoMemory.{NoMemory}
use Rattle.amqp_txn_types.specs.declared.performatives.Frame.{Frame}
use Rattle.amqp_below_layer.specs.Inner.{Took}
use Rattle.amqp_below_layer.specs.Told.{Reviews, Told}
use Rattle.amqp_below_layer.specs.Reviewing.{GoesOn, Lasts, OnlyNoMemory, StaysOn}
use Rattle.amqp_below_layer.specs.declared.inner_error.SessionInnerError.{SessionInnerError}
use Rattle.amqp_below_layer.specs.declared.verdict.Verdict.{Verdict}
use Rattle.amqp_below_layer.specs.declared.verdict.Verdict.TheVariants as verdicts
use Rattle.amqp_below_recorder.specs.declared.call_numbers.Planned.{Planned}
use Rattle.amqp_below_recorder.specs.declared.call_numbers.Planned.TheVariants as fates
use Rattle.amqp_below_recorder.specs.declared.recorder.Recorder.{Recorder}
use Rattle.amqp_below_recorder.specs.Recording.{PassesOn, RecordsCall, WhyErr, any_refused, calls_of, error_uncopied, given_uncopied, inner_of, is_among, is_unused, no_room, own_of, own_vetoes_of, passed, plan_of, planned_by, planned_so, starved_of}

-- what a layer told and answered in a review
pub record Reviewed {S : Type 0} (told : S → Told)
    (gives : S → S → List Frame → Result Verdict NoMemory → Type 0) (old new : S)
    (list : List Frame) (result : Result Verdict NoMemory) : Type 0 where
  pub reviews : Reviews (told old) (told new) list result
  pub answered : gives old new list result

-- a recorder answers by itself where its plan vetoes the frames, of which it may lack memory for a
-- copy
abbrev pub AnswersAlone : Bool → ℕ → ℕ → ℕ → ℕ → Result Verdict NoMemory → Type 0
AnswersAlone planned own own_after vetoes vetoes_after (Ok verdicts.Accept) = ⊥
AnswersAlone planned own own_after vetoes vetoes_after (Ok verdicts.Veto) =
    (planned ≡ true) × (own_after ≡ own) × (vetoes_after ≡ one_more vetoes)
AnswersAlone planned own own_after vetoes vetoes_after (Err error) =
    (planned ≡ true) × (own_after ≡ one_more own) × (vetoes_after ≡ vetoes)

-- a review that didn't reach the layer in a recorder
pub record Unasked {S : Type 0} (old new : Recorder S) (planned : Bool)
    (result : Result Verdict NoMemory) : Type 0 where
  pub untouched : inner_of new ≡ inner_of old
  pub alone :
      AnswersAlone planned (own_of old) (own_of new) (own_vetoes_of old) (own_vetoes_of new) result

-- a review that the layer in a recorder answered, which is the recorder's answer
pub record Asked {S : Type 0} (told : S → Told)
    (gives : S → S → List Frame → Result Verdict NoMemory → Type 0) (old new : Recorder S)
    (planned : Bool) (list : List Frame) (result : Result Verdict NoMemory) : Type 0 where
  pub unplanned : planned ≡ false
  pub inner : Reviewed told gives (inner_of old) (inner_of new) list result
  pub own : own_of new ≡ own_of old
  pub vetoes : own_vetoes_of new ≡ own_vetoes_of old

-- a review that the layer in a recorder vetoed, of whose frames there was no memory for a copy: a
-- refusal of the recorder's own
pub record Uncopied {S : Type 0} (told : S → Told)
    (gives : S → S → List Frame → Result Verdict NoMemory → Type 0) (old new : Recorder S)
    (planned : Bool) (list : List Frame) (result : Result Verdict NoMemory) : Type 0 where
  pub unplanned : planned ≡ false
  pub inner : Reviewed told gives (inner_of old) (inner_of new) list (Ok verdicts.Veto)
  pub answer : IsErr result
  pub own : own_of new ≡ one_more (own_of old)
  pub vetoes : own_vetoes_of new ≡ own_vetoes_of old

-- a review of a recorder, which uses up no number
pub record RecordsReview {S : Type 0} (told : S → Told)
    (gives : S → S → List Frame → Result Verdict NoMemory → Type 0) (old new : Recorder S)
    (list : List Frame) (result : Result Verdict NoMemory) : Type 0 where
  pub recorded :
      Unasked old new (any_refused (plan_of old) (calls_of old) list) result
      ⊎ Asked told gives old new (any_refused (plan_of old) (calls_of old) list) list result
      ⊎ Uncopied told gives old new (any_refused (plan_of old) (calls_of old) list) list result
  pub calls : calls_of new ≡ calls_of old
  pub plan : plan_of new ≡ plan_of old
  pub starved : starved_of new ≡ starved_of old
  pub unused : is_unused new ≡ is_unused old

-- the layer in a recorder takes these frames, and the plan refuses none of their calls
pub record TakesEach {S : Type 0} (takes : S → List Frame → Type 0) (r : Recorder S)
    (list : List Frame) : Type 0 where
  pub unplanned : any_refused (plan_of r) (calls_of r) list ≡ false
  pub inner : takes (inner_of r) list

-- neither of two
none-of : (a b : Bool) → (a || b) ≡ false → (a ≡ false) × (b ≡ false)
none-of true b none = absurd (cc none)
none-of false b none = (refl, none)

-- a planned call is one of a number in the plan
planned-among : (starved refused : Bool) → planned_by starved refused ≡ fates.Refused
    → refused ≡ true
planned-among true refused planned = absurd (cc planned)
planned-among false true planned = refl
planned-among false false planned = absurd (cc planned)

-- out of memory that a layer may have is one that a recorder may have
only-weakened : (sure : Bool) (error : SessionInnerError) → OnlyNoMemory sure error
    → OnlyNoMemory false error
only-weakened sure error only = (only.0, refl)

module _ {S : Type 0} (takes : S → List Frame → Type 0) (sure : Bool) where
  -- why a call that no plan refuses was answered an Err: out of memory
  why-only : (old new : S) (frame : Frame) (rest : List Frame)
      (Inner : Result (List Frame) SessionInnerError → Type 0)
      → ((answer : Result (List Frame) SessionInnerError) → Inner answer
      → Lasts sure (takes new rest) answer)
      → (planned : Planned) (error : SessionInnerError) (rose : Bool)
      → (planned ≡ fates.Refused → ⊥) → WhyErr Inner (new ≡ old) planned error rose
      → OnlyNoMemory false error
  why-only old new frame rest Inner law planned _ _ not (planned_so is same) = absurd (not is)
  why-only old new frame rest Inner law planned _ _ not (no_room same) = (refl, refl)
  why-only old new frame rest Inner law planned _ _ not (passed error made inner) =
      only-weakened sure error (law (Err error) inner)
  why-only old new frame rest Inner law planned _ _ not (error_uncopied error made inner) =
      (refl, refl)
  why-only old new frame rest Inner law planned _ _ not (given_uncopied given some made inner) =
      (refl, refl)

  -- a call that changes nothing of a recorder leaves what it takes
  kept-takes : (old new : Recorder S) (list : List Frame) → PassesOn old new
      → takes (inner_of new) list → TakesEach takes old list → TakesEach takes new list
  kept-takes old new list kept inner each = record {
    unplanned =
        ap (λ plan. any_refused plan (calls_of new) list) kept.plans.plan
        ∙ ap (λ calls. any_refused (plan_of old) calls list) kept.calls
        ∙ each.unplanned;
    inner = inner;
  }

  -- the check of a disposition leaves what is taken
  pub recorded-stays-on : (old new : Recorder S) (answer : Result Unit SessionInnerError)
      → PassesOn old new → StaysOn takes sure (inner_of old) (inner_of new) answer
      → StaysOn (TakesEach takes) false old new answer
  recorded-stays-on old new (Ok done) kept law list each =
      kept-takes old new list kept (law list each.inner) each
  recorded-stays-on old new (Err error) kept law list each =
      let stays = law list each.inner in
      record {
        stays = kept-takes old new list kept stays.stays each;
        wants = only-weakened sure error stays.wants;
      }

-- asking for the window leaves what is taken
pub recorded-window-stays-on : {S : Type 0} (takes : S → List Frame → Type 0)
    (old new : Recorder S) → PassesOn old new
    → ((list : List Frame) → takes (inner_of old) list → takes (inner_of new) list)
    → (list : List Frame) → TakesEach takes old list → TakesEach takes new list
recorded-window-stays-on takes old new kept law list each =
    kept-takes takes false old new list kept (law list each.inner) each

-- the incoming call of the first of some frames that are taken goes on to the rest
pub recorded-goes-on : {S : Type 0} (told : S → Told) (takes : S → List Frame → Type 0)
    (sure : Bool) (gives : S → S → Frame → Result (List Frame) SessionInnerError → Type 0)
    → ((old new : S) (frame : Frame) (answer : Result (List Frame) SessionInnerError)
    → gives old new frame answer → GoesOn takes sure old new frame answer)
    → (old new : Recorder S) (frame : Frame) (answer : Result (List Frame) SessionInnerError)
    → RecordsCall told gives old new frame answer
    → GoesOn (TakesEach takes) false old new frame answer
recorded-goes-on told takes sure gives law old new frame (Ok given) records rest each =
    let none = none-of _ _ each.unplanned in
    record {
      unplanned =
          ap (λ plan. any_refused plan (calls_of new) rest) records.plans.plan
          ∙ ap (λ calls. any_refused (plan_of old) calls rest) records.calls
          ∙ none.1;
      inner =
          law (inner_of old) (inner_of new) frame
          (Ok given) records.recorded.1.gave rest each.inner;
    }
recorded-goes-on told takes sure gives law old new frame (Err error) records rest each =
    let none = none-of _ _ each.unplanned in
    let unplanned : is_among (plan_of old) (calls_of new) ≡ false =
    ap (λ calls. is_among (plan_of old) calls) records.calls ∙ none.0 in
    why-only takes sure (inner_of old) (inner_of new) frame rest
    (Took told gives (inner_of old) (inner_of new) frame)
    (λ answer took. law (inner_of old) (inner_of new) frame answer took.gave rest each.inner)
    _ error records.recorded.0
    (λ planned. let among = planned-among _ _ planned in absurd (cc (among, unplanned)))
    records.recorded.1
