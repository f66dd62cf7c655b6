-- What the calls of a listener leave of the session in it: the laws of `Session` for a listener.
use Rattle.std.specs.Prelude.{◌≡◌, ◌||◌, Bool, Result, Ok, Err, List}
use Rattle.std.proofs.Common.{refl, ap, inl, inr, sym, ◌∙◌, subst}
use Rattle.amqp_txn_types.specs.declared.performatives.Attach.{Attach}
use Rattle.amqp_txn_types.specs.declared.performatives.Frame.{Frame}
use Rattle.amqp_txn_types.specs.declared.performatives.Frame.TheVariants as frames
use Rattle.amqp_txn_types.specs.declared.text.Text.{Text}
use Rattle.amqp_txn_types.specs.Frames.{is_coordinator_attach}
use Rattle.amqp_below_layer.specs.declared.inner_error.SessionInnerError.{SessionInnerError}
use Rattle.amqp_below_layer.specs.declared.inner_error.SessionInnerError.TheVariants as faults
use Rattle.amqp_below_layer.specs.Inner.{Took}
use Rattle.amqp_below_layer.specs.Told.{Told}
use Rattle.amqp_below_sessions.specs.Names.{Attaches, LeftBy, Names, SameNames, attaches-leaves, left-same, state_attached}
use Rattle.amqp_below_sessions.specs.Sessions.{Kept, Leaves, LeavesFrame, LeavesOpening, kept-own_queue, kept-same, leaves-own_queue, queue-left, same-own_queue, with_queue}
use Rattle.amqp_below_sessions.specs.declared.relay.NameState.{NameState}
use Rattle.amqp_below_sessions.specs.declared.relay.NameState.TheVariants.{Unknown, Waiting, Taken}
use Rattle.amqp_below_sessions.specs.Queues.{Queue}
use Rattle.amqp_accept_listener.specs.declared.listener.ListenerSession.{ListenerSession}
use Rattle.amqp_accept_listener.specs.Hearing.{HearsAttach, HearsFrame, Queues, let_pass}
use Rattle.amqp_accept_listener.specs.Listening.{inner_of, kept_with, queue_of}

-- an answer that is let pass, of a call that leaves all
left-let_pass : (Same : Type 0) (answer : Result (List Frame) SessionInnerError)
    → LeftBy Same Same answer → LeftBy Same Same (let_pass answer)
left-let_pass Same (Ok given) left = left
left-let_pass Same (Err faults.NoMemory) left = left
left-let_pass Same (Err faults.UnattachedHandle) left = left
left-let_pass Same (Err faults.RemoteAttachingLinkNameNotFound) left = left
left-let_pass Same (Err faults.HandleInUse) left = left
left-let_pass Same (Err faults.IllegalState) left = left
left-let_pass Same (Err (faults.ConnectionStopped reason)) left = left
left-let_pass Same (Err faults.TransferFrameToSender) left = left
left-let_pass Same (Err faults.RemoteEnded) left = left
left-let_pass Same (Err (faults.RemoteEndedWithError cause)) left = left
left-let_pass Same (Err faults.UnknownTxnId) left = left

module _ {S : Type 0} (told : S → Told) (kept : S → Kept) (names : S → Names) where
  -- a session that is the same has the same names
  pub names-same : (old new : S) → new ≡ old → SameNames (names old) (names new)
  names-same old new same = record {
    known = λ name. ap (λ s. (names s).known name) same;
    at = λ output. ap (λ s. (names s).at output) same;
  }

  -- where no link of a name waits, an attach of that name that leaves the session attaches nothing
  attaches-same : (old new : S) (name : Text) → new ≡ old
      → state_attached ((names old).known name) ≡ (names old).known name
      → Attaches (names old) (names new) name
  attaches-same old new name same stays = record {
    known = ap (λ s. (names s).known name) same ∙ sym stays;
    others = λ other differs. ap (λ s. (names s).known other) same;
    at = λ output. ap (λ s. (names s).at output) same;
  }

  -- a call that leaves what the session keeps and its names, and the queue
  pub passed-leaves : (old new : ListenerSession S)
      → Leaves (kept (inner_of old)) (kept (inner_of new)) (names (inner_of old))
      (names (inner_of new))
      → queue_of new ≡ queue_of old
      → Leaves (kept_with kept old) (kept_with kept new) (names (inner_of old))
      (names (inner_of new))
  passed-leaves old new leaves queue =
      leaves-own_queue (kept (inner_of old)) (kept (inner_of new)) (queue_of old) (queue_of new)
      (names (inner_of old)) (names (inner_of new)) leaves queue

  -- the attach of a control link
  pub opening-leaves : (old new : ListenerSession S) (attach : Attach)
      (answer : Result (List Frame) SessionInnerError)
      → LeavesOpening (kept (inner_of old)) (kept (inner_of new)) (names (inner_of old))
      (names (inner_of new)) attach answer
      → queue_of new ≡ queue_of old
      → LeavesOpening (kept_with kept old) (kept_with kept new) (names (inner_of old))
      (names (inner_of new)) attach answer
  opening-leaves old new attach answer leaves queue = record {
    kept = same-own_queue (kept (inner_of old)) (kept (inner_of new)) (queue_of old) (queue_of new)
        leaves.kept queue;
    names = leaves.names;
  }

  module _ (at_once : Bool)
      (gives : S → S → Frame → Result (List Frame) SessionInnerError → Type 0)
      (law : (old new : S) (frame : Frame) (answer : Result (List Frame) SessionInnerError)
      → gives old new frame answer
      → LeavesFrame at_once (kept old) (kept new) (names old) (names new) frame answer) where
    -- an attach that isn't the session's
    queued-leaves : (old new : S) (state : NameState) (before after : Queue) (attach : Attach)
        (answer : Result (List Frame) SessionInnerError) → new ≡ old
        → state_attached ((names old).known attach.name) ≡ (names old).known attach.name
        → Queues state before after attach answer
        → LeavesFrame at_once (with_queue (kept old) before) (with_queue (kept new) after)
        (names old) (names new) (frames.Attach attach) answer
    queued-leaves old new state before after attach (Ok given) same stays queues = record {
      kept = record {
        others = ap (λ s. with_queue (kept s) after) same;
        queue = inr (queues.0, queues.2);
      };
      names = attaches-leaves (at_once || is_coordinator_attach (frames.Attach attach)) (names old)
          (names new) attach.name (attaches-same old new attach.name same stays);
    }
    queued-leaves old new state before after attach (Err error) same stays queues = record {
      kept = kept-same (with_queue (kept old) before) (with_queue (kept new) after)
          (frames.Attach attach) (Err error)
          (same-own_queue (kept old) (kept new) before after (ap kept same) queues.1);
      names = left-same _ _ error (names-same old new same);
    }

    -- a frame that is the session's, with the queue as it was
    inner-leaves : (old new : S) (before after : Queue) (frame : Frame)
        (answer : Result (List Frame) SessionInnerError) → gives old new frame answer
        → after ≡ before
        → LeavesFrame at_once (with_queue (kept old) before) (with_queue (kept new) after)
        (names old) (names new) frame answer
    inner-leaves old new before after frame answer gave queue =
        let left = law old new frame answer gave in
        record {
          kept = kept-own_queue (kept old) (kept new) before after frame answer left.kept.others
              (queue-left before after frame answer queue);
          names = left.names;
        }

    -- an attach, by how its name is known
    attach-leaves : (old new : S) (state : NameState) (before after : Queue) (attach : Attach)
        (answer : Result (List Frame) SessionInnerError) → (names old).known attach.name ≡ state
        → HearsAttach (Took told gives old new (frames.Attach attach)) state old new before after
        attach answer
        → LeavesFrame at_once (with_queue (kept old) before) (with_queue (kept new) after)
        (names old) (names new) (frames.Attach attach) answer
    attach-leaves old new Unknown before after attach answer is hears =
        queued-leaves old new Unknown before after attach answer hears.0
        (ap state_attached is ∙ sym is) hears.1
    attach-leaves old new Waiting before after attach answer is hears =
        inner-leaves old new before after (frames.Attach attach) answer hears.0.gave hears.1
    attach-leaves old new Taken before after attach answer is hears =
        queued-leaves old new Taken before after attach answer hears.0
        (ap state_attached is ∙ sym is) hears.1

    -- what a listener leaves of a frame
    abbrev Left : ListenerSession S → ListenerSession S → Frame
        → Result (List Frame) SessionInnerError → Type 0
    Left old new frame answer =
        LeavesFrame at_once (kept_with kept old) (kept_with kept new) (names (inner_of old))
        (names (inner_of new)) frame answer

    -- a call that leaves no names changed, whose answer is let pass
    let_pass-leaves : (old new : ListenerSession S)
        (answer result : Result (List Frame) SessionInnerError)
        → LeftBy (SameNames (names (inner_of old)) (names (inner_of new)))
        (SameNames (names (inner_of old)) (names (inner_of new))) answer
        → result ≡ let_pass answer
        → LeftBy (SameNames (names (inner_of old)) (names (inner_of new)))
        (SameNames (names (inner_of old)) (names (inner_of new))) result
    let_pass-leaves old new answer result left is =
        let Passed : Result (List Frame) SessionInnerError → Type 0 =
        LeftBy (SameNames (names (inner_of old)) (names (inner_of new)))
        (SameNames (names (inner_of old)) (names (inner_of new))) in
        subst Passed (sym is) (left-let_pass _ answer left)

    -- an incoming frame call
    pub heard-leaves : (old new : ListenerSession S) (frame : Frame)
        (answer : Result (List Frame) SessionInnerError)
        → HearsFrame told gives names old new frame answer → Left old new frame answer
    heard-leaves old new (frames.Attach attach) answer heard =
        attach-leaves (inner_of old) (inner_of new) ((names (inner_of old)).known attach.name) _ _
        attach answer refl heard.hears.0
    heard-leaves old new (frames.Flow flow) answer heard =
        elim heard.hears.0 [
          | inl a ↦
              let left = inner-leaves (inner_of old) (inner_of new) (queue_of old) (queue_of new)
              (frames.Flow flow) a.0 a.1.inner.gave heard.hears.1 in
              record {
                kept = record {
                  others = left.kept.others;
                  queue = queue-left (queue_of old) (queue_of new) (frames.Flow flow) answer
                      heard.hears.1;
                };
                names = let_pass-leaves old new a.0 answer left.names a.1.result_is;
              }
          | inr none ↦
              let Answered : Result (List Frame) SessionInnerError → Type 0 =
              Left old new (frames.Flow flow) in
              subst Answered (sym none.result_is) (record {
                kept = kept-same (kept_with kept old) (kept_with kept new) (frames.Flow flow)
                    (Err faults.NoMemory)
                    (same-own_queue (kept (inner_of old)) (kept (inner_of new)) (queue_of old)
                    (queue_of new) (ap kept none.inner) heard.hears.1);
                names = inr (names-same (inner_of old) (inner_of new) none.inner);
              })
        ]
    heard-leaves old new (frames.Transfer transfer payload) answer heard =
        let h = heard.hears.0 in
        let queue = heard.hears.1.queue in
        let left = inner-leaves (inner_of old) (inner_of new) (queue_of old) (queue_of new)
        (frames.Transfer transfer payload) h.0 h.1.gave queue in
        record {
          kept = record {
            others = left.kept.others;
            queue = queue-left (queue_of old) (queue_of new) (frames.Transfer transfer payload)
                answer queue;
          };
          names = let_pass-leaves old new h.0 answer left.names h.2;
        }
    heard-leaves old new (frames.Disposition disposition) answer heard =
        inner-leaves (inner_of old) (inner_of new) (queue_of old) (queue_of new)
        (frames.Disposition disposition) answer heard.hears.0.gave heard.hears.1.queue
    heard-leaves old new (frames.Detach detach) answer heard =
        inner-leaves (inner_of old) (inner_of new) (queue_of old) (queue_of new)
        (frames.Detach detach) answer heard.hears.0.gave heard.hears.1.queue
