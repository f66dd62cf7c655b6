-- What a session does with the frames and the control links that come by its calls.
use Rattle.std.specs.Prelude.{ℕ, ◌≡◌, ◌⊎◌, ◌&&◌, ◌==◌, ◌-◌, ◌^◌, Bool, true, false, not, is_none, MatchBool, Option, Some, None, Result, Ok, Err, List}
use Rattle.amqp_txn_types.specs.declared.performatives.Attach.{Attach}
use Rattle.amqp_txn_types.specs.declared.performatives.Frame.{Frame}
use Rattle.amqp_below_layer.specs.declared.inner_error.SessionInnerError.{SessionInnerError}
use Rattle.amqp_resource_record.specs.declared.stop.StopCode.{StopCode}
use Rattle.amqp_below_layer.specs.Told.{Told}
use Rattle.amqp_txn_types.specs.declared.id.TransactionId.{TransactionId}
use Rattle.amqp_resource_session.specs.declared.session.TxnSession.{TxnSession}
use Rattle.amqp_resource_record.specs.Stops.{fault_code}
use Rattle.amqp_txn_types.specs.Frames.{is_coordinator_attach, txn}
use Rattle.amqp_txn_types.specs.declared.performatives.Frame.TheVariants as frames
use Rattle.amqp_below_layer.specs.declared.inner_error.SessionInnerError.TheVariants as faults
use Rattle.amqp_below_layer.specs.Inner.{Took}
use Rattle.amqp_resource_session.specs.Calls.{GoesOn, by_stop}
use Rattle.amqp_resource_held.specs.Held.{SameHeld}
use Rattle.amqp_resource_session.specs.Opening.{OpensLink, frames_of}
use Rattle.amqp_txn_types.specs.Counts.{counted}
use Rattle.amqp_txn_types.specs.Presumptive.{answered_under}
use Rattle.amqp_resource_held.specs.Changes.{Arrives}
use Rattle.amqp_resource_session.specs.Session.{FitsTogether, SameSession, below_of, held_of, is_live_on, opened_of, refusals_of, stop_of, view_of}

-- the session refuses by itself, and all but its count is as it was
abbrev pub RefusesWith : {S T : Type 0} → TxnSession S → TxnSession S → SessionInnerError
    → Result T SessionInnerError → Type 0
RefusesWith old new error result = (result ≡ Err error) × SameSession old new

-- ---- control links

-- the session runs, and hasn't opened as many links as there are numbers
abbrev pub can_open : {S : Type 0} → TxnSession S → Bool
can_open session = is_none (stop_of session) && not (opened_of session == 2 ^ 64 - 1)

-- a control link is opened, or refused below, and the session goes on either way; or there was no
-- room for it, and the layer below wasn't asked
abbrev pub OpensBelow : {S : Type 0} → (S → Told)
    → (S → S → Attach → Result (List Frame) SessionInnerError → Type 0)
    → TxnSession S → TxnSession S → Attach → Result (ℕ × List Frame) SessionInnerError → Type 0
OpensBelow told opens old new attach result =
    ((stop_of new ≡ None) × OpensLink told opens (held_of old) (held_of new) (below_of old)
    (below_of new) attach result)
    ⊎ RefusesWith old new faults.NoMemory result

-- the attach of a control link: IllegalState where the session can open none
abbrev pub OpensControl : {S : Type 0} → (S → Told)
    → (S → S → Attach → Result (List Frame) SessionInnerError → Type 0)
    → TxnSession S → TxnSession S → Attach → Result (ℕ × List Frame) SessionInnerError → Type 0
OpensControl told opens old new attach result =
    MatchBool (can_open old) (OpensBelow told opens old new attach result)
    (RefusesWith old new faults.IllegalState result)

-- such a call: what the session keeps goes on to fit together, and an Err is counted
pub record HearsControl {S : Type 0} (told : S → Told)
    (opens : S → S → Attach → Result (List Frame) SessionInnerError → Type 0)
    (old new : TxnSession S) (attach : Attach) (result : Result (ℕ × List Frame) SessionInnerError)
    : Type 0 where
  pub fits : FitsTogether old → FitsTogether new
  pub opens_by : OpensControl told opens old new attach result
  pub counts : refusals_of new ≡ counted result (refusals_of old)

-- ---- frames

-- a frame under a live id is kept, and given back is what it is answered at once; or memory lacked
abbrev pub HearsLive : {S : Type 0} → TxnSession S → TxnSession S → Frame → TransactionId
    → Result (List Frame) SessionInnerError → Type 0
HearsLive old new frame id (Ok given) =
    (given ≡ answered_under id frame) × Arrives (view_of old) (view_of new) frame id
    × GoesOn old new
HearsLive old new frame id (Err error) = (error ≡ faults.NoMemory) × SameSession old new

-- a frame under an id that isn't live stops the session, and nothing else changes
pub record HearsDead {S : Type 0} (old new : TxnSession S)
    (result : Result (List Frame) SessionInnerError) : Type 0 where
  pub answered : result ≡ Err faults.UnknownTxnId
  pub held : SameHeld (held_of old) (held_of new)
  pub below : below_of new ≡ below_of old
  pub stops : stop_of new ≡ Some (fault_code faults.UnknownTxnId)

-- a frame under an id, by whether that is live
abbrev pub HearsUnder : {S : Type 0} → TxnSession S → TxnSession S → Frame → TransactionId → Bool
    → Result (List Frame) SessionInnerError → Type 0
HearsUnder old new frame id true result = HearsLive old new frame id result
HearsUnder old new frame id false result = HearsDead old new result

-- a refusal of the layer below stops the session
abbrev pub StopsAtErr : Result (List Frame) SessionInnerError → Option StopCode → Type 0
StopsAtErr (Ok given) stop = stop ≡ None
StopsAtErr (Err error) stop = stop ≡ Some (fault_code error)

-- a plain frame goes below, and is answered by that
pub record HearsPlain {S : Type 0} (told : S → Told)
    (gives : S → S → Frame → Result (List Frame) SessionInnerError → Type 0)
    (old new : TxnSession S) (frame : Frame) (result : Result (List Frame) SessionInnerError)
    : Type 0 where
  pub took : Took told gives (below_of old) (below_of new) frame result
  pub held : held_of new ≡ held_of old
  pub stops : StopsAtErr result (stop_of new)

-- an attach to a coordinator opens a control link, whose frames are given back
abbrev pub HearsAttach : {S : Type 0} → (S → Told)
    → (S → S → Attach → Result (List Frame) SessionInnerError → Type 0)
    → TxnSession S → TxnSession S → Attach → Result (List Frame) SessionInnerError → Type 0
HearsAttach told opens old new attach result =
    (opened : Result (ℕ × List Frame) SessionInnerError)
    × OpensControl told opens old new attach opened × (result ≡ frames_of opened)

-- a frame that attaches to a coordinator
abbrev pub HearsOpening : {S : Type 0} → (S → Told)
    → (S → S → Attach → Result (List Frame) SessionInnerError → Type 0)
    → TxnSession S → TxnSession S → Frame → Result (List Frame) SessionInnerError → Type 0
HearsOpening told opens old new (frames.Attach attach) result =
    HearsAttach told opens old new attach result
HearsOpening told opens old new frame result = ⊥

-- a frame under no id, by whether it attaches to a coordinator
abbrev pub HearsUnbound : {S : Type 0} → (S → Told)
    → (S → S → Frame → Result (List Frame) SessionInnerError → Type 0)
    → (S → S → Attach → Result (List Frame) SessionInnerError → Type 0)
    → TxnSession S → TxnSession S → Frame → Bool → Result (List Frame) SessionInnerError → Type 0
HearsUnbound told gives opens old new frame true result =
    HearsOpening told opens old new frame result
HearsUnbound told gives opens old new frame false result =
    HearsPlain told gives old new frame result

-- a frame, by the id that it is under, if any
abbrev pub HearsKind : {S : Type 0} → (S → Told)
    → (S → S → Frame → Result (List Frame) SessionInnerError → Type 0)
    → (S → S → Attach → Result (List Frame) SessionInnerError → Type 0)
    → TxnSession S → TxnSession S → Frame → Option TransactionId
    → Result (List Frame) SessionInnerError → Type 0
HearsKind told gives opens old new frame None result =
    HearsUnbound told gives opens old new frame (is_coordinator_attach frame) result
HearsKind told gives opens old new frame (Some id) result =
    HearsUnder old new frame id (is_live_on old id) result

-- a frame by one of the five calls: IllegalState where the session has stopped
abbrev pub Hears : {S : Type 0} → (S → Told)
    → (S → S → Frame → Result (List Frame) SessionInnerError → Type 0)
    → (S → S → Attach → Result (List Frame) SessionInnerError → Type 0)
    → TxnSession S → TxnSession S → Frame → Result (List Frame) SessionInnerError → Type 0
Hears told gives opens old new frame result =
    by_stop (stop_of old) (RefusesWith old new faults.IllegalState result)
    (HearsKind told gives opens old new frame (txn frame) result)

-- such a call: what the session keeps goes on to fit together, and an Err is counted
pub record HearsFrame {S : Type 0} (told : S → Told)
    (gives : S → S → Frame → Result (List Frame) SessionInnerError → Type 0)
    (opens : S → S → Attach → Result (List Frame) SessionInnerError → Type 0)
    (old new : TxnSession S) (frame : Frame) (result : Result (List Frame) SessionInnerError)
    : Type 0 where
  pub fits : FitsTogether old → FitsTogether new
  pub hears : Hears told gives opens old new frame result
  pub counts : refusals_of new ≡ counted result (refusals_of old)
