-- What a session hears: its frames and control links, by their kind.
use Rattle.std.proofs.Common.{◌≡◌, ℕ, ◌≤◌, Bool, true, false, cond, Option, Some, None, Result, Ok, Err, List, refl, sym, ◌∙◌, ap, subst, arith, rules}
use Rattle.amqp_txn_types.specs.declared.performatives.Attach.{Attach}
use Rattle.amqp_below_layer.specs.Told.{Fixed, Opens, Told, Takes}
use Rattle.amqp_txn_types.specs.declared.performatives.Frame.{Frame}
use Rattle.amqp_below_layer.specs.declared.inner_error.SessionInnerError.{SessionInnerError}
use Rattle.amqp_resource_record.specs.declared.stop.StopCode.{StopCode}
use Rattle.amqp_txn_types.specs.declared.id.TransactionId.{TransactionId}
use Rattle.amqp_resource_session.specs.declared.session.TxnSession.{TxnSession}
use Rattle.amqp_txn_types.specs.Frames.{attaches_coordinator, txn}
use Rattle.amqp_below_layer.specs.Faults.{is_no_memory}
use Rattle.amqp_txn_types.specs.Counts.{one_more}
use Rattle.amqp_txn_types.specs.declared.performatives.Frame.TheVariants as frames
use Rattle.amqp_below_layer.specs.declared.inner_error.SessionInnerError.TheVariants as faults
use Rattle.amqp_resource_session.specs.Calls.{by_stop}
use Rattle.amqp_resource_session.specs.Hearing.{Hears, HearsAttach, HearsKind, HearsUnbound, HearsUnder, RefusesWith}
use Rattle.amqp_resource_session.specs.Opening.{frames_of}
use Rattle.amqp_txn_types.specs.Counts.{counted}
use Rattle.amqp_resource_session.specs.Session.{is_live_on, stop_of}
use Rattle.amqp_resource_session.proofs.Calling.{listless}
use Rattle.amqp_resource_session.proofs.Keeping.{coord-attach, txn-attach}

-- ---- what is told

-- nothing, either way
either : {A : Type 0} (b : Bool) (x : A) → x ≡ cond b x x
either true x = refl
either false x = refl

-- an incoming frame call of a session that tells no list, and counts its answer
pub hears-takes : (n m v w : ℕ) (f k : Fixed) (frame : Frame)
    (result : Result (List Frame) SessionInnerError) → n ≤ m → k ≡ f → m ≡ counted result n → w ≡ v
    → Takes (listless n v f) (listless m w k) frame result
hears-takes n m v w f k frame (Ok given) later fixed count same = record {
  taken = refl;
  opened = refl;
  reviews = ap (λ x. record { vetoes = x; vetoed = None }) same;
  refused = refl;
  fixed = fixed;
  later = later;
  cause = search rules;
}
hears-takes n m v w f k frame (Err error) later fixed count same = record {
  taken = refl;
  opened = refl;
  reviews = ap (λ x. record { vetoes = x; vetoed = None }) same;
  refused = either (is_no_memory error) None;
  fixed = fixed;
  later = later;
  cause = let more : m ≡ one_more n = count in omega (arith, more);
}

-- the attach of a control link through such a session
pub hears-opens : (n m v w : ℕ) (f k : Fixed) (attach : Attach)
    (result : Result (ℕ × List Frame) SessionInnerError) → n ≤ m → k ≡ f → m ≡ counted result n → w ≡ v
    → Opens (listless n v f) (listless m w k) attach (frames_of result)
hears-opens n m v w f k attach (Ok link) later fixed count same = record {
  taken = refl;
  opened = refl;
  reviews = ap (λ x. record { vetoes = x; vetoed = None }) same;
  refused = refl;
  fixed = fixed;
  later = later;
  cause = search rules;
}
hears-opens n m v w f k attach (Err error) later fixed count same = record {
  taken = refl;
  opened = refl;
  reviews = ap (λ x. record { vetoes = x; vetoed = None }) same;
  refused = either (is_no_memory error) None;
  fixed = fixed;
  later = later;
  cause = let more : m ≡ one_more n = count in omega (arith, more);
}

-- ---- what is done

module _ {S : Type 0} (told : S → Told)
    (gives : S → S → Frame → Result (List Frame) SessionInnerError → Type 0)
    (opens : S → S → Attach → Result (List Frame) SessionInnerError → Type 0)
    (old new : TxnSession S) (result : Result (List Frame) SessionInnerError) where
  -- a session that runs
  running : (frame : Frame) → stop_of old ≡ None
      → HearsKind told gives opens old new frame (txn frame) result
      → Hears told gives opens old new frame result
  running frame runs hears =
      let By : Option StopCode → Type 0 = λ stop.
      by_stop stop (RefusesWith old new faults.IllegalState result)
      (HearsKind told gives opens old new frame (txn frame) result) in
      subst By (sym runs) hears

  -- a frame under an id
  pub hears-under : (frame : Frame) (id : TransactionId) → stop_of old ≡ None → txn frame ≡ Some id
      → HearsUnder old new frame id (is_live_on old id) result
      → Hears told gives opens old new frame result
  hears-under frame id runs is hears =
      let Kind : Option TransactionId → Type 0 =
      λ o. HearsKind told gives opens old new frame o result in
      running frame runs (subst Kind (sym is) hears)

  -- an attach to a coordinator
  pub hears-attach : (frame : Frame) (attach : Attach) → stop_of old ≡ None
      → frame ≡ frames.Attach attach → attaches_coordinator attach ≡ true
      → HearsAttach told opens old new attach result → Hears told gives opens old new frame result
  hears-attach frame attach runs is coordinator hears =
      let Heard : Frame → Type 0 = λ f. Hears told gives opens old new f result in
      let Kind : Option TransactionId → Type 0 =
      λ o. HearsKind told gives opens old new (frames.Attach attach) o result in
      let Unbound : Bool → Type 0 =
      λ b. HearsUnbound told gives opens old new (frames.Attach attach) b result in
      subst Heard (sym is) (running (frames.Attach attach) runs
      (subst Kind (sym (txn-attach attach))
      (subst Unbound (sym (coord-attach attach ∙ coordinator)) hears)))
