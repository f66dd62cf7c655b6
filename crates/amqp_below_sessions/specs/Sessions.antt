-- What the calls of a session do to what it tells and keeps.
use Rattle.std.specs.Prelude.{◌≡◌, ◌≤◌, ◌⊎◌, Bool, false, List, Option, Some, None, Result, Ok, Err, OnErr}
use Rattle.std.proofs.Common.{ap, inl, refl, subst, sym, ◌∙◌}
use Rattle.amqp_txn_types.specs.declared.small.SessionState.{SessionState}
use Rattle.amqp_txn_types.specs.declared.small.OutgoingChannel.{OutgoingChannel}
use Rattle.amqp_txn_types.specs.declared.delivery.SessionStopReason.{SessionStopReason}
use Rattle.amqp_txn_types.specs.declared.delivery.ConnectionStopReason.{ConnectionStopReason}
use Rattle.amqp_txn_types.specs.declared.performatives.Attach.{Attach}
use Rattle.amqp_txn_types.specs.declared.performatives.Frame.{Frame}
use Rattle.amqp_txn_types.specs.declared.performatives.Frame.TheVariants as frames
use Rattle.amqp_below_layer.specs.declared.inner_error.SessionInnerError.{SessionInnerError}
use Rattle.amqp_below_layer.specs.declared.inner_error.SessionInnerError.TheVariants as faults
use Rattle.amqp_below_sessions.specs.Names.{FrameLeaves, LeftBy, Names, OpensLink, SameNames, left-same, left-uncopied}
use Rattle.amqp_below_sessions.specs.Queues.{Queue, with_last}
use Rattle.amqp_below_sessions.specs.declared.session_errors.AllocLinkError.{AllocLinkError}
use Rattle.amqp_below_sessions.specs.declared.session_errors.AllocLinkError.TheVariants as refusals
use Rattle.amqp_below_sessions.specs.declared.stop_reason.StopReason.{StopReason}
use Rattle.amqp_below_sessions.specs.declared.stop_reason.StopReason.TheVariants as reasons
use Rattle.amqp_below_layer.specs.Told.{Fixed, Told}
use Rattle.amqp_txn_types.specs.Counts.{Rose}

-- what a session keeps beside its links: its channel, the first stop reason of each kind, and the
-- attaches that wait to be accepted
pub record Kept : Type 0 where
  pub channel : OutgoingChannel
  pub stop : Option SessionStopReason
  pub connection : Option ConnectionStopReason
  pub queue : Queue

-- what is kept, with this queue
abbrev pub with_queue : Kept → Queue → Kept
with_queue kept queue = record kept { queue = queue }

-- the first of some reasons is kept
abbrev pub first_of : {R : Type 0} → Option R → R → Option R
first_of None reason = Some reason
first_of (Some kept) reason = Some kept

-- what is kept once a session or its connection stopped for this reason
abbrev pub stopped_for : Kept → StopReason → Kept
stopped_for kept (reasons.Session reason) = record kept { stop = first_of kept.stop reason }
stopped_for kept (reasons.Connection reason) =
    record kept { connection = first_of kept.connection reason }

-- the state moves at an Ok as it has to, and stays at an Err
abbrev pub MovesOn : {T E : Type 0} → Option SessionState → Fixed → Fixed → Result T E → Type 0
MovesOn moved old new (Ok value) =
    (moved ≡ Some new.state) × (new.plan ≡ old.plan) × (new.starved ≡ old.starved)
MovesOn moved old new (Err error) = new ≡ old

-- a call that begins or ends a session: it adds to no list
pub record Moves {T E : Type 0} (moved : Option SessionState) (old new : Told)
    (result : Result T E) : Type 0 where
  pub taken : new.taken ≡ old.taken
  pub opened : new.opened ≡ old.opened
  pub refused : new.refused ≡ old.refused
  pub reviews : new.reviews ≡ old.reviews
  pub moves : MovesOn moved old.fixed new.fixed result
  pub later : old.refusals ≤ new.refusals
  pub cause : OnErr result (Rose old.refusals new.refusals)

-- a stop reason is answered only where it is kept, and a link only where there is none
abbrev pub StoppedBy : {T : Type 0} → Option SessionStopReason → Result T AllocLinkError → Type 0
StoppedBy stop (Ok output) = stop ≡ None
StoppedBy stop (Err (refusals.SessionStopped reason)) = stop ≡ Some reason
StoppedBy stop (Err _) = Unit {0}

-- a call leaves what a session keeps and its names
pub record Leaves (before after : Kept) (old new : Names) : Type 0 where
  pub kept : after ≡ before
  pub names : SameNames old new

-- the queue once a frame was taken: an attach may wait in it now, as the last, unless it is closed
abbrev pub FrameQueues : Queue → Queue → Frame → Type 0
FrameQueues old new (frames.Attach attach) =
    (new ≡ old) ⊎ ((old.closed ≡ false) × (new ≡ with_last old attach))
FrameQueues old new frame = new ≡ old

-- what an incoming frame call leaves of what a session keeps: all but the queue, to which it may
-- add
pub record LeavesKept (before after : Kept) (frame : Frame)
    (result : Result (List Frame) SessionInnerError) : Type 0 where
  pub others : after ≡ with_queue before after.queue
  pub queue :
      LeftBy (FrameQueues before.queue after.queue frame) (after.queue ≡ before.queue) result

-- what an incoming frame call leaves of what a session keeps and of its names, by whether the
-- session accepts links at once
pub record LeavesFrame (at_once : Bool) (before after : Kept) (old new : Names) (frame : Frame)
    (result : Result (List Frame) SessionInnerError) : Type 0 where
  pub kept : LeavesKept before after frame result
  pub names : LeftBy (FrameLeaves at_once old new frame) (SameNames old new) result

-- what the attach of a control link leaves of what a session keeps and of its names
pub record LeavesOpening (before after : Kept) (old new : Names) (attach : Attach)
    (result : Result (List Frame) SessionInnerError) : Type 0 where
  pub kept : after ≡ before
  pub names : LeftBy (OpensLink old new attach.name) (SameNames old new) result

-- a queue that is as it was may be so whatever the frame
queues-same : (old new : Queue) (frame : Frame) → new ≡ old → FrameQueues old new frame
queues-same old new (frames.Attach attach) same = inl same
queues-same old new (frames.Flow flow) same = same
queues-same old new (frames.Transfer transfer payload) same = same
queues-same old new (frames.Disposition disposition) same = same
queues-same old new (frames.Detach detach) same = same

-- a queue that is as it was is so whatever the frame and the answer
pub queue-left : (old new : Queue) (frame : Frame)
    (result : Result (List Frame) SessionInnerError) → new ≡ old
    → LeftBy (FrameQueues old new frame) (new ≡ old) result
queue-left old new frame (Ok given) same = queues-same old new frame same
queue-left old new frame (Err error) same =
    left-same (FrameQueues old new frame) (new ≡ old) error same

-- what is as it was is kept, whatever the frame and the answer
pub kept-same : (before after : Kept) (frame : Frame)
    (result : Result (List Frame) SessionInnerError) → after ≡ before
    → LeavesKept before after frame result
kept-same before after frame result same = record {
  others = subst (λ k. k ≡ with_queue before k.queue) (sym same) refl;
  queue = queue-left before.queue after.queue frame result (ap (λ k. k.queue) same);
}

-- what any answer leaves is left where memory runs out to keep that answer
pub kept-uncopied : (before after : Kept) (frame : Frame)
    (result : Result (List Frame) SessionInnerError) → LeavesKept before after frame result
    → LeavesKept before after frame (Err faults.NoMemory)
kept-uncopied before after frame result left = record {
  others = left.others;
  queue = left-uncopied (FrameQueues before.queue after.queue frame)
      (after.queue ≡ before.queue) result left.queue;
}

-- what a session in another leaves is left where that keeps a queue of its own
pub kept-own_queue : (before after : Kept) (old new : Queue) (frame : Frame)
    (result : Result (List Frame) SessionInnerError) → after ≡ with_queue before after.queue
    → LeftBy (FrameQueues old new frame) (new ≡ old) result
    → LeavesKept (with_queue before old) (with_queue after new) frame result
kept-own_queue before after old new frame result others queue = record {
  others = ap (λ k. with_queue k new) others;
  queue = queue;
}

-- the same of what is as it was
pub same-own_queue : (before after : Kept) (old new : Queue) → after ≡ before → new ≡ old
    → with_queue after new ≡ with_queue before old
same-own_queue before after old new same queue =
    ap (λ k. with_queue k new) same ∙ ap (with_queue before) queue

-- the same of a reason for which it stopped
pub stopped-own_queue : (kept : Kept) (queue : Queue) (reason : StopReason)
    → with_queue (stopped_for kept reason) queue ≡ stopped_for (with_queue kept queue) reason
stopped-own_queue kept queue (reasons.Session reason) = refl
stopped-own_queue kept queue (reasons.Connection reason) = refl

-- the same of a call that leaves what is kept and the names
pub leaves-own_queue : (before after : Kept) (was is : Queue) (old new : Names)
    → Leaves before after old new → is ≡ was
    → Leaves (with_queue before was) (with_queue after is) old new
leaves-own_queue before after was is old new leaves queue = record {
  kept = same-own_queue before after was is leaves.kept queue;
  names = leaves.names;
}
