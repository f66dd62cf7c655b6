-- What a step costs: the looks into the log of the work.
use Rattle.std.specs.Prelude.{ℕ, ◌≡◌, ◌≤◌, ◌+◌, ◌*◌, cond, Option, Some, None, Result, Err, List, length, is_some}
use Rattle.std.specs.List.{sum_by}
use Rattle.amqp_txn_codec.specs.declared.message.ControlMessageBody.{ControlMessageBody}
use Rattle.amqp_resource_held.specs.declared.held.Held.{Held}
use Rattle.amqp_resource_log.specs.Live.{Live, frame_count, frames_kept, kept, owed}
use Rattle.amqp_resource_record.specs.declared.step.Step.{Step}
use Rattle.amqp_txn_types.specs.declared.id.TransactionId.{TransactionId}
use Rattle.amqp_txn_codec.specs.Reading.{message_of}
use Rattle.amqp_txn_types.specs.Frames.{txn}
use Rattle.amqp_txn_codec.specs.declared.message.ControlMessageBody.TheVariants as messages
use Rattle.amqp_resource_record.specs.declared.step.Step.TheVariants as steps
use Rattle.amqp_resource_record.specs.declared.stop.StepError.{StepError}
use Rattle.amqp_resource_record.specs.declared.stop.StepError.TheVariants as errors
use Rattle.amqp_resource_held.specs.Held.{ids_on, is_in, is_kept_on}

-- how many frames are kept for some ids
abbrev pub frames_for : Live → Option (List TransactionId) → ℕ
frames_for work None = 0
frames_for work (Some ids) = sum_by (λ t. length (frames_kept (kept work t))) ids

-- how many frames are kept for the ids of a link
abbrev pub frames_on : Held → ℕ → ℕ
frames_on held link = frames_for held.work (ids_on held.links.entries link)

-- how many frames a message on an open link ends: a discharge those of its id, where that was
-- declared on the link; one that closes the link those of all its ids; and any other none
abbrev pub message_ends : Held → ℕ → Option ControlMessageBody → ℕ
message_ends held link None = frames_on held link
message_ends held link (Some (messages.Declare declare)) = 0
message_ends held link (Some (messages.Discharge discharge)) =
    cond (is_kept_on link (kept held.work discharge.txn_id))
    (length (frames_kept (kept held.work discharge.txn_id))) 0

-- how many frames a step ends, at most: those of the id that is discharged, those of all ids of the
-- link that ends or is closed, or none
abbrev pub frames_ended : Held → Step → ℕ
frames_ended held (steps.Control link payload) =
    cond (is_in held.links.entries link) (message_ends held link (message_of payload)) 0
frames_ended held (steps.LinkEnd link) = frames_on held link
frames_ended held _ = 0

-- so many frames ended, and none where memory ran out
abbrev pub unless_no_memory : {T : Type 0} → Result T StepError → ℕ → ℕ
unless_no_memory (Err errors.NoMemory) count = 0
unless_no_memory _ count = count

-- the step is a frame under an id: how many frames it adds, at most
abbrev pub frames_added : Step → ℕ
frames_added (steps.Frame frame) = cond (is_some (txn frame)) 1 0
frames_added _ = 0

-- the looks that are still to be made, at most: one for each frame that was taken since the log was
-- closed up last, and two for each that is kept
abbrev pub dues : Live → ℕ
dues work = owed work + 2 * frame_count work

-- no fewer frames are kept, at most so many more, and nothing is taken
pub record Adds (old new : Live) (more : ℕ) : Type 0 where
  pub owed : owed new ≡ owed old
  pub kept : frame_count old ≤ frame_count new
  pub frames : frame_count new ≤ frame_count old + more

-- looks that a change makes which ends at most so many frames and adds at most so many
pub record Pays (old new : Live) (looks now ends adds : ℕ) : Type 0 where
  pub ended : now + owed new ≤ looks + owed old + 2 * ends
  pub all : now + dues new ≤ looks + dues old + 2 * adds
