-- What the calls of a recorder leave of the session in it: the laws of `Session` for a recorder.
use Rattle.std.specs.Prelude.{◌≡◌, Bool, Result, Ok, Err, List}
use Rattle.std.proofs.Common.{ap, inl, inr}
use Rattle.amqp_txn_types.specs.declared.performatives.Attach.{Attach}
use Rattle.amqp_txn_types.specs.declared.performatives.Frame.{Frame}
use Rattle.amqp_below_layer.specs.declared.inner_error.SessionInnerError.{SessionInnerError}
use Rattle.amqp_below_layer.specs.declared.inner_error.SessionInnerError.TheVariants as faults
use Rattle.amqp_below_recorder.specs.declared.call_numbers.Planned.{Planned}
use Rattle.amqp_below_recorder.specs.declared.recorder.Recorder.{Recorder}
use Rattle.amqp_below_recorder.specs.Recording.{RecordsCall, RecordsOpen, WhyErr, error_uncopied, given_uncopied, inner_of, no_room, passed, planned_so}
use Rattle.amqp_below_layer.specs.Told.{Told}
use Rattle.amqp_below_sessions.specs.Names.{LeftBy, Names, SameNames, left-uncopied}
use Rattle.amqp_below_sessions.specs.Sessions.{Kept, Leaves, LeavesFrame, LeavesKept, LeavesOpening, kept-same, kept-uncopied}
use Rattle.amqp_txn_types.specs.declared.items.NoMemory.{NoMemory}
use Rattle.amqp_below_layer.specs.declared.verdict.Verdict.{Verdict}
use Rattle.amqp_below_layer.specs.declared.verdict.Verdict.TheVariants as verdicts
use Rattle.amqp_below_recorder.specs.Vetoing.{RecordsReview}

module _ {S : Type 0} (told : S → Told) (kept : S → Kept) (names : S → Names) where
  -- a session that is the same has the same names
  names-same : (old new : S) → new ≡ old → SameNames (names old) (names new)
  names-same old new same = record {
    known = λ name. ap (λ s. (names s).known name) same;
    at = λ output. ap (λ s. (names s).at output) same;
  }

  module _ (old new : S) (Done : Type 0)
      (Inner KeptLeft : Result (List Frame) SessionInnerError → Type 0)
      (untouched : (answer : Result (List Frame) SessionInnerError) → kept new ≡ kept old
      → KeptLeft answer)
      (uncopied : (answer : Result (List Frame) SessionInnerError) → KeptLeft answer
      → KeptLeft (Err faults.NoMemory))
      (law : (answer : Result (List Frame) SessionInnerError) → Inner answer
      → KeptLeft answer × LeftBy Done (SameNames (names old) (names new)) answer) where
    -- what was kept where the answer could not be copied
    copy-left : (answer : Result (List Frame) SessionInnerError) → Inner answer
        → KeptLeft (Err faults.NoMemory)
        × LeftBy Done (SameNames (names old) (names new)) (Err faults.NoMemory)
    copy-left answer inner =
        let left = law answer inner in (
          uncopied answer left.0,
          left-uncopied Done (SameNames (names old) (names new)) answer left.1,
        )

    -- a call that a recorder refused, or whose answer it couldn't keep, leaves what the layer in
    -- it left, or all
    refused-left : (planned : Planned) (error : SessionInnerError) (rose : Bool)
        → WhyErr Inner (new ≡ old) planned error rose
        → KeptLeft (Err error) × LeftBy Done (SameNames (names old) (names new)) (Err error)
    refused-left planned _ _ (planned_so is_planned same) =
        (untouched (Err faults.IllegalState) (ap kept same), names-same old new same)
    refused-left planned _ _ (no_room same) =
        (untouched (Err faults.NoMemory) (ap kept same), inr (names-same old new same))
    refused-left planned _ _ (passed error no_plan inner) = law (Err error) inner
    refused-left planned _ _ (error_uncopied error no_plan inner) = copy-left (Err error) inner
    refused-left planned _ _ (given_uncopied given some no_plan inner) =
        copy-left (Ok given) inner

  -- an incoming frame call
  pub recorded-leaves : (at_once : Bool)
      (gives : S → S → Frame → Result (List Frame) SessionInnerError → Type 0)
      → ((old new : S) (frame : Frame) (answer : Result (List Frame) SessionInnerError)
      → gives old new frame answer
      → LeavesFrame at_once (kept old) (kept new) (names old) (names new) frame answer)
      → (old new : Recorder S) (frame : Frame) (answer : Result (List Frame) SessionInnerError)
      → RecordsCall told gives old new frame answer
      → LeavesFrame at_once (kept (inner_of old)) (kept (inner_of new)) (names (inner_of old))
      (names (inner_of new)) frame answer
  recorded-leaves at_once gives law old new frame (Ok given) records =
      law (inner_of old) (inner_of new) frame (Ok given) records.recorded.1.gave
  recorded-leaves at_once gives law old new frame (Err error) records =
      let left = refused-left (inner_of old) (inner_of new) _ _
      (LeavesKept (kept (inner_of old)) (kept (inner_of new)) frame)
      (kept-same (kept (inner_of old)) (kept (inner_of new)) frame)
      (kept-uncopied (kept (inner_of old)) (kept (inner_of new)) frame)
      (λ answer took.
      let leaves = law (inner_of old) (inner_of new) frame answer took.gave in
      (leaves.kept, leaves.names))
      _ error records.recorded.0 records.recorded.1 in
      record { kept = left.0; names = left.1 }

  -- the attach of a control link
  pub recorded_opening-leaves :
      (gives : S → S → Attach → Result (List Frame) SessionInnerError → Type 0)
      → ((old new : S) (attach : Attach) (answer : Result (List Frame) SessionInnerError)
      → gives old new attach answer
      → LeavesOpening (kept old) (kept new) (names old) (names new) attach answer)
      → (old new : Recorder S) (attach : Attach)
      (answer : Result (List Frame) SessionInnerError)
      → RecordsOpen told gives old new attach answer
      → LeavesOpening (kept (inner_of old)) (kept (inner_of new)) (names (inner_of old))
      (names (inner_of new)) attach answer
  recorded_opening-leaves gives law old new attach (Ok given) records =
      law (inner_of old) (inner_of new) attach (Ok given) records.recorded.1.gave
  recorded_opening-leaves gives law old new attach (Err error) records =
      let left = refused-left (inner_of old) (inner_of new) _ _
      (λ answer. kept (inner_of new) ≡ kept (inner_of old)) (λ answer same. same)
      (λ answer same. same)
      (λ answer opened.
      let leaves = law (inner_of old) (inner_of new) attach answer opened.gave in
      (leaves.kept, leaves.names))
      _ error records.recorded.0 records.recorded.1 in
      record { kept = left.0; names = left.1 }

  -- a review
  pub recorded_review-leaves :
      (gives : S → S → List Frame → Result Verdict NoMemory → Type 0)
      → ((old new : S) (list : List Frame) (answer : Result Verdict NoMemory)
      → gives old new list answer → Leaves (kept old) (kept new) (names old) (names new))
      → (old new : Recorder S) (list : List Frame) (answer : Result Verdict NoMemory)
      → RecordsReview told gives old new list answer
      → Leaves (kept (inner_of old)) (kept (inner_of new)) (names (inner_of old))
      (names (inner_of new))
  recorded_review-leaves gives law old new list answer records = elim records.recorded [
    | inl alone ↦ record {
      kept = ap kept alone.untouched;
      names = names-same (inner_of old) (inner_of new) alone.untouched;
    }
    | inr reached ↦ elim reached [
      | inl asked ↦ law (inner_of old) (inner_of new) list answer asked.inner.answered
      | inr vetoed ↦ law (inner_of old) (inner_of new) list (Ok verdicts.Veto) vetoed.inner.answered
    ]
  ]
