-- What keeping a frame under an id leaves.
use Rattle.std.specs.Prelude.{◌≡◌, true, false, cond, Option, Some, None, List}
use Rattle.amqp_resource_log.specs.Live.{Live, kept, with_frame}
use Rattle.amqp_txn_types.specs.Ids.{same_id}
use Rattle.amqp_txn_types.specs.Presumptive.{answered_under}
use Rattle.amqp_txn_types.specs.declared.id.TransactionId.{TransactionId}
use Rattle.amqp_txn_types.specs.declared.performatives.Frame.{Frame}
use Rattle.amqp_resource_held.specs.Draws.{is_kept}
use Rattle.amqp_resource_session.specs.declared.frame_steps.KeptWork.{KeptWork}
use Rattle.amqp_resource_session.specs.declared.frame_steps.KeptWork.TheVariants as works

-- the id is live, this frame is the last that is kept for it, and these frames answer it at once
pub record KeepsFrame (old new : Live) (frame : Frame) (id : TransactionId) (given : List Frame)
    : Type 0 where
  pub was_live : is_kept old id ≡ true
  pub answered : given ≡ answered_under id frame
  pub live : (t : TransactionId) → kept new t
      ≡ cond (same_id t id) (with_frame (kept old t) frame) (kept old t)

-- by the answer: the frame is kept, or nothing changes, the id not being live
abbrev pub KeepsCopy : Live → Live → Frame → TransactionId → Option (List Frame) → Type 0
KeepsCopy old new frame id (Some given) = KeepsFrame old new frame id given
KeepsCopy old new frame id None = (is_kept old id ≡ false) × (new ≡ old)

-- the same with out of memory, which comes of a live id alone
abbrev pub KeepsUnder : Live → Live → Frame → TransactionId → KeptWork → Type 0
KeepsUnder old new frame id (works.Answered given) = KeepsFrame old new frame id given
KeepsUnder old new frame id works.NotLive = (is_kept old id ≡ false) × (new ≡ old)
KeepsUnder old new frame id works.NoMemory = (is_kept old id ≡ true) × (new ≡ old)
