-- What the incoming frame calls of a session leave of the session below it: the law of `Session`
-- for a session over another.
use Rattle.std.specs.Prelude.{ℕ, ◌≡◌, Bool, true, false, MatchBool, Option, Some, None, Result, Ok, Err, List}
use Rattle.std.proofs.Common.{refl, ap, inl, inr, sym, subst}
use Rattle.amqp_txn_types.specs.declared.performatives.Attach.{Attach}
use Rattle.amqp_txn_types.specs.declared.performatives.Frame.{Frame}
use Rattle.amqp_resource_held.specs.declared.held.Held.{Held}
use Rattle.amqp_txn_types.specs.declared.items.NoMemory.{NoMemory}
use Rattle.amqp_below_layer.specs.declared.inner_error.SessionInnerError.{SessionInnerError}
use Rattle.amqp_resource_record.specs.declared.stop.StopCode.{StopCode}
use Rattle.amqp_below_layer.specs.Told.{Told}
use Rattle.amqp_txn_types.specs.declared.id.TransactionId.{TransactionId}
use Rattle.amqp_resource_session.specs.declared.session.TxnSession.{TxnSession}
use Rattle.amqp_below_layer.specs.declared.verdict.Verdict.{Verdict}
use Rattle.amqp_txn_types.specs.Frames.{is_coordinator_attach, txn}
use Rattle.amqp_txn_types.specs.declared.performatives.Frame.TheVariants as frames
use Rattle.amqp_below_layer.specs.declared.inner_error.SessionInnerError.TheVariants as faults
use Rattle.amqp_below_layer.specs.declared.verdict.Verdict.TheVariants as verdicts
use Rattle.amqp_below_sessions.specs.Names.{FrameLeaves, Names, OpensLink as OpensName, SameNames, left-map, opens-leaves}
use Rattle.amqp_below_sessions.specs.Sessions.{Kept, Leaves, LeavesFrame, LeavesOpening, kept-same}
use Rattle.amqp_resource_session.specs.Calls.{by_stop}
use Rattle.amqp_resource_session.specs.Hearing.{HearsAttach, HearsFrame, HearsKind, HearsUnbound, HearsUnder, OpensBelow, RefusesWith, can_open}
use Rattle.amqp_resource_session.specs.Reviewing.{AsksBelow, TxnReviews}
use Rattle.amqp_resource_session.specs.Opening.{OpensLink, frames_of}
use Rattle.amqp_resource_session.specs.Session.{below_of, held_of, is_live_on, stop_of}

module _ {S : Type 0} (told : S → Told) (kept : S → Kept) (names : S → Names) (at_once : Bool)
  where
    -- a session that is the same has the same names
    names-same : (old new : S) → new ≡ old → SameNames (names old) (names new)
    names-same old new same = record {
      known = λ name. ap (λ s. (names s).known name) same;
      at = λ output. ap (λ s. (names s).at output) same;
    }

    -- what a frame leaves of the session below
    abbrev Left : TxnSession S → TxnSession S → Frame → Result (List Frame) SessionInnerError
        → Type 0
    Left old new frame result =
        LeavesFrame at_once (kept (below_of old)) (kept (below_of new)) (names (below_of old))
        (names (below_of new)) frame result

    -- what an attach of a control link leaves of it
    abbrev LeftOpening : TxnSession S → TxnSession S → Attach
        → Result (List Frame) SessionInnerError → Type 0
    LeftOpening old new attach result =
        LeavesOpening (kept (below_of old)) (kept (below_of new)) (names (below_of old))
        (names (below_of new)) attach result

    -- a frame under an id, of a kind that leaves the names
    under-leaves : (old new : TxnSession S) (frame : Frame) (id : TransactionId) (live : Bool)
        (result : Result (List Frame) SessionInnerError)
        → (SameNames (names (below_of old)) (names (below_of new))
        → FrameLeaves at_once (names (below_of old)) (names (below_of new)) frame)
        → HearsUnder old new frame id live result → Left old new frame result
    under-leaves old new frame id true (Ok given) leaves hears = record {
      kept = kept-same _ _ _ _ (ap kept hears.2.below);
      names = leaves (names-same (below_of old) (below_of new) hears.2.below);
    }
    under-leaves old new frame id true (Err error) leaves hears =
        let Answered : SessionInnerError → Type 0 = λ e. Left old new frame (Err e) in
        subst Answered (sym hears.0) (record {
          kept = kept-same _ _ _ _ (ap kept hears.1.below);
          names = inr (names-same (below_of old) (below_of new) hears.1.below);
        })
    under-leaves old new frame id false result leaves hears =
        let Answered : Result (List Frame) SessionInnerError → Type 0 = Left old new frame in
        subst Answered (sym hears.answered) (record {
          kept = kept-same _ _ _ _ (ap kept hears.below);
          names = names-same (below_of old) (below_of new) hears.below;
        })

    -- a session that has stopped
    stopped-leaves : (old new : TxnSession S) (frame : Frame)
        (result : Result (List Frame) SessionInnerError)
        → RefusesWith old new faults.IllegalState result → Left old new frame result
    stopped-leaves old new frame result hears =
        let Answered : Result (List Frame) SessionInnerError → Type 0 = Left old new frame in
        subst Answered (sym hears.0) (record {
          kept = kept-same _ _ _ _ (ap kept hears.1.below);
          names = names-same (below_of old) (below_of new) hears.1.below;
        })

    -- a review, by whether the session has stopped
    asked-leaves : (gives : S → S → List Frame → Result Verdict NoMemory → Type 0)
        (law : (old new : S) (list : List Frame) (answer : Result Verdict NoMemory)
        → gives old new list answer → Leaves (kept old) (kept new) (names old) (names new))
        (old new : TxnSession S) (list : List Frame) (answer : Result Verdict NoMemory)
        (stop : Option StopCode)
        → by_stop stop ((answer ≡ Ok verdicts.Veto) × (below_of new ≡ below_of old))
        (AsksBelow told gives (below_of old) (below_of new) list answer)
        → Leaves (kept (below_of old)) (kept (below_of new)) (names (below_of old))
        (names (below_of new))
    asked-leaves gives law old new list answer (Some code) answers = record {
      kept = ap kept answers.1;
      names = names-same (below_of old) (below_of new) answers.1;
    }
    asked-leaves gives law old new list answer None answers =
        law (below_of old) (below_of new) list answer answers.gave

    pub review-leaves : (gives : S → S → List Frame → Result Verdict NoMemory → Type 0)
        (law : (old new : S) (list : List Frame) (answer : Result Verdict NoMemory)
        → gives old new list answer → Leaves (kept old) (kept new) (names old) (names new))
        (old new : TxnSession S) (list : List Frame) (answer : Result Verdict NoMemory)
        → TxnReviews told gives old new list answer
        → Leaves (kept (below_of old)) (kept (below_of new)) (names (below_of old))
        (names (below_of new))
    review-leaves gives law old new list answer reviews =
        asked-leaves gives law old new list answer (stop_of old) reviews.answers

    module _ (opens : S → S → Attach → Result (List Frame) SessionInnerError → Type 0)
        (opening_law : (old new : S) (attach : Attach)
        (answer : Result (List Frame) SessionInnerError) → opens old new attach answer
        → LeavesOpening (kept old) (kept new) (names old) (names new) attach answer) where
      -- an attach that the layer below answered
      opened-leaves : (old new : TxnSession S) (held now : Held) (attach : Attach)
          (opened : Result (ℕ × List Frame) SessionInnerError)
          → OpensLink told opens held now (below_of old) (below_of new) attach opened
          → LeftOpening old new attach (frames_of opened)
      opened-leaves old new held now attach (Ok link) opens_by =
          opening_law (below_of old) (below_of new) attach (Ok link.1) opens_by.1.gave
      opened-leaves old new held now attach (Err error) opens_by =
          opening_law (below_of old) (below_of new) attach (Err error) opens_by.1.gave

      -- an attach of a control link, by whether the session can open one
      control-leaves : (old new : TxnSession S) (attach : Attach) (can : Bool)
          (opened : Result (ℕ × List Frame) SessionInnerError)
          → MatchBool can (OpensBelow told opens old new attach opened)
          (RefusesWith old new faults.IllegalState opened)
          → LeftOpening old new attach (frames_of opened)
      control-leaves old new attach true opened opens_by =
          elim opens_by [
            | inl asked ↦ opened-leaves old new (held_of old) (held_of new) attach opened asked.1
            | inr wanting ↦
                let Answered : Result (ℕ × List Frame) SessionInnerError → Type 0 =
                λ o. LeftOpening old new attach (frames_of o) in
                subst Answered (sym wanting.0) (record {
                  kept = ap kept wanting.1.below;
                  names = inr (names-same (below_of old) (below_of new) wanting.1.below);
                })
          ]
      control-leaves old new attach false opened opens_by =
          let Answered : Result (ℕ × List Frame) SessionInnerError → Type 0 =
          λ o. LeftOpening old new attach (frames_of o) in
          subst Answered (sym opens_by.0) (record {
            kept = ap kept opens_by.1.below;
            names = names-same (below_of old) (below_of new) opens_by.1.below;
          })

      -- an attach to a coordinator
      coordinator-leaves : (old new : TxnSession S) (attach : Attach)
          (result : Result (List Frame) SessionInnerError)
          → is_coordinator_attach (frames.Attach attach) ≡ true
          → HearsAttach told opens old new attach result
          → Left old new (frames.Attach attach) result
      coordinator-leaves old new attach result is hears =
          let Answered : Result (List Frame) SessionInnerError → Type 0 =
          Left old new (frames.Attach attach) in
          let left = control-leaves old new attach (can_open old) hears.0 hears.1 in
          subst Answered (sym hears.2) (record {
            kept = kept-same _ _ _ _ left.kept;
            names = left-map
                (OpensName (names (below_of old)) (names (below_of new)) attach.name)
                (FrameLeaves at_once (names (below_of old)) (names (below_of new))
                (frames.Attach attach))
                (SameNames (names (below_of old)) (names (below_of new))) (frames_of hears.0)
                (opens-leaves at_once (is_coordinator_attach (frames.Attach attach))
                (names (below_of old)) (names (below_of new)) attach.name is) left.names;
          })

      module _ (gives : S → S → Frame → Result (List Frame) SessionInnerError → Type 0)
          (law : (old new : S) (frame : Frame) (answer : Result (List Frame) SessionInnerError)
          → gives old new frame answer
          → LeavesFrame at_once (kept old) (kept new) (names old) (names new) frame answer) where
        -- a frame under no id
        unbound-leaves : (old new : TxnSession S) (frame : Frame) (coordinator : Bool)
            (result : Result (List Frame) SessionInnerError)
            → is_coordinator_attach frame ≡ coordinator
            → HearsUnbound told gives opens old new frame coordinator result
            → Left old new frame result
        unbound-leaves old new frame false result is hears =
            law (below_of old) (below_of new) frame result hears.took.gave
        unbound-leaves old new (frames.Attach attach) true result is hears =
            coordinator-leaves old new attach result is hears
        unbound-leaves old new (frames.Flow flow) true result is hears = absurd hears
        unbound-leaves old new (frames.Transfer transfer payload) true result is hears =
            absurd hears
        unbound-leaves old new (frames.Disposition disposition) true result is hears = absurd hears
        unbound-leaves old new (frames.Detach detach) true result is hears = absurd hears

        -- a frame of a kind that leaves the names, by the id that it is under
        work-leaves : (old new : TxnSession S) (frame : Frame) (id : Option TransactionId)
            (result : Result (List Frame) SessionInnerError)
            → (SameNames (names (below_of old)) (names (below_of new))
            → FrameLeaves at_once (names (below_of old)) (names (below_of new)) frame)
            → HearsKind told gives opens old new frame id result → Left old new frame result
        work-leaves old new frame None result leaves hears =
            unbound-leaves old new frame (is_coordinator_attach frame) result refl hears
        work-leaves old new frame (Some id) result leaves hears =
            under-leaves old new frame id (is_live_on old id) result leaves hears

        -- a frame by its kind
        kind-leaves : (old new : TxnSession S) (frame : Frame)
            (result : Result (List Frame) SessionInnerError)
            → HearsKind told gives opens old new frame (txn frame) result
            → Left old new frame result
        unfolding txn
        kind-leaves old new (frames.Attach attach) result hears =
            unbound-leaves old new (frames.Attach attach)
            (is_coordinator_attach (frames.Attach attach)) result refl hears
        kind-leaves old new (frames.Flow flow) result hears =
            unbound-leaves old new (frames.Flow flow)
            (is_coordinator_attach (frames.Flow flow)) result refl hears
        kind-leaves old new (frames.Transfer transfer payload) result hears =
            work-leaves old new (frames.Transfer transfer payload)
            (txn (frames.Transfer transfer payload)) result (λ same. same) hears
        kind-leaves old new (frames.Disposition disposition) result hears =
            work-leaves old new (frames.Disposition disposition)
            (txn (frames.Disposition disposition)) result (λ same. same) hears
        kind-leaves old new (frames.Detach detach) result hears =
            unbound-leaves old new (frames.Detach detach)
            (is_coordinator_attach (frames.Detach detach)) result refl hears

        -- a frame, by whether the session has stopped
        any-leaves : (old new : TxnSession S) (frame : Frame) (stop : Option StopCode)
            (result : Result (List Frame) SessionInnerError)
            → by_stop stop (RefusesWith old new faults.IllegalState result)
            (HearsKind told gives opens old new frame (txn frame) result)
            → Left old new frame result
        any-leaves old new frame (Some code) result hears =
            stopped-leaves old new frame result hears
        any-leaves old new frame None result hears = kind-leaves old new frame result hears

        -- an incoming frame call
        pub heard-leaves : (old new : TxnSession S) (frame : Frame)
            (answer : Result (List Frame) SessionInnerError)
            → HearsFrame told gives opens old new frame answer → Left old new frame answer
        heard-leaves old new frame answer hears =
            any-leaves old new frame (stop_of old) answer hears.hears
