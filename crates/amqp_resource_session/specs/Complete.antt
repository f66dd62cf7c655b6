-- When a step is answered well.
use Rattle.std.specs.Prelude.{ℕ, ◌≡◌, Result, Ok, Err, List, length}
use Rattle.amqp_below_ids.specs.Ids.{AreNext}
use Rattle.amqp_below_ids.specs.Drawn.{DrawnIds}
use Rattle.amqp_resource_record.specs.declared.entry.Entry.{Entry}
use Rattle.amqp_resource_record.specs.declared.reply.Reply.{Reply}
use Rattle.amqp_txn_types.specs.Counts.{Rose}
use Rattle.amqp_resource_record.specs.declared.step.Step.{Step}
use Rattle.amqp_resource_record.specs.declared.stop.StepError.{StepError}
use Rattle.amqp_below_layer.specs.Told.{Told}
use Rattle.amqp_txn_types.specs.declared.id.TransactionId.{TransactionId}
use Rattle.amqp_resource_record.specs.Valid.{Valid}
use Rattle.amqp_resource_record.specs.declared.reply.Reply.TheVariants as replies
use Rattle.amqp_resource_record.specs.declared.stop.StepError.TheVariants as errors

-- one of the five replies that do what was asked
abbrev pub DoesIt : Reply → Type 0
DoesIt (replies.Frames answers) = Unit {0}
DoesIt (replies.Attached link given) = Unit {0}
DoesIt replies.LinkEnded = Unit {0}
DoesIt (replies.Declared id) = Unit {0}
DoesIt (replies.Accepted echoes) = Unit {0}
DoesIt _ = ⊥

-- such a reply, or out of memory
abbrev pub Completed : Result (DrawnIds × Reply) StepError → Type 0
Completed (Ok out) = DoesIt out.1
Completed (Err errors.NoMemory) = Unit {0}
Completed (Err _) = ⊥

-- the premises: the step is valid, and neither a refusal nor a veto was counted
pub record InOrder (old new : Told) (ids : ℕ → TransactionId) (entries : List Entry) (step : Step)
    (next_ids : List TransactionId) : Type 0 where
  pub next : AreNext ids 0 next_ids
  pub count : length next_ids ≡ 16
  pub valid : Valid entries step next_ids
  pub quiet : Rose old.refusals new.refusals → ⊥
  pub calm : Rose old.reviews.vetoes new.reviews.vetoes → ⊥
