-- What one entry of a record says by itself: an entry is a step, the ids that it drew, its reply.
-- The sections named here and in the files that follow are those of part 4 of the standard
-- (OASIS AMQP 1.0, Transactions).
use Rattle.std.specs.Prelude.{ℕ, ◌==◌, Bool, true, false, Option, Some, None, List, map}
use Rattle.std.specs.List.{flat_map}
use Rattle.amqp_txn_types.specs.Ids.{same_id, is_some_id}
use Rattle.amqp_txn_types.specs.declared.id.TransactionId.{TransactionId}
use Rattle.amqp_txn_types.specs.declared.small.TransactionError.TheVariants as transaction_errors
use Rattle.amqp_txn_types.specs.Frames.{txn}
use Rattle.amqp_txn_codec.specs.declared.message.ControlMessageBody.{ControlMessageBody}
use Rattle.amqp_txn_codec.specs.declared.message.ControlMessageBody.TheVariants as messages
use Rattle.amqp_txn_codec.specs.Reading.{message_of}
use Rattle.amqp_resource_record.specs.declared.step.Step.{Step}
use Rattle.amqp_resource_record.specs.declared.step.Step.TheVariants as steps
use Rattle.amqp_resource_record.specs.declared.reply.Reply.{Reply}
use Rattle.amqp_resource_record.specs.declared.reply.Reply.TheVariants as replies
use Rattle.amqp_resource_record.specs.declared.entry.Entry.{Entry}

-- the reply attached the link with this number
abbrev pub reply_attaches : ℕ → Reply → Bool
reply_attaches link (replies.Attached attached frames) = attached == link
reply_attaches link _ = false

-- the entry attached the link with this number
abbrev pub attaches : ℕ → Entry → Bool
attaches link entry = reply_attaches link entry.reply

-- the reply attached some link
abbrev pub is_attached : Reply → Bool
is_attached (replies.Attached link frames) = true
is_attached _ = false

-- the link was ended and the reply says so, or a payload that is no control message closed it
abbrev pub step_closes : ℕ → Step → Reply → Bool
step_closes link (steps.LinkEnd closed) replies.LinkEnded = closed == link
step_closes link (steps.Control closed payload) (replies.LinkClosed error) = closed == link
step_closes link _ _ = false

-- the entry ended or closed the link
abbrev pub closes : ℕ → Entry → Bool
closes link entry = step_closes link entry.step entry.reply

-- the reply declared the id
abbrev pub reply_declares : TransactionId → Reply → Bool
reply_declares id (replies.Declared declared) = same_id id declared
reply_declares id _ = false

-- the entry declared the id
abbrev pub declares : TransactionId → Entry → Bool
declares id entry = reply_declares id entry.reply

-- the message is a discharge of the id, be it a commit or a rollback (4.5.3, Discharge)
abbrev pub message_discharges : TransactionId → Option ControlMessageBody → Bool
message_discharges id (Some (messages.Discharge discharge)) = same_id id discharge.txn_id
message_discharges id _ = false

-- the reply is a veto: the commit was rolled back instead (4.5.8, Transaction Error)
abbrev pub is_veto : Reply → Bool
is_veto (replies.Rejected transaction_errors.Rollback text) = true
is_veto _ = false

-- the payload spells a discharge of the id, and it was accepted or vetoed (4.3, Discharging a
-- Transaction)
abbrev pub step_discharges : TransactionId → Step → Reply → Bool
step_discharges id (steps.Control link payload) (replies.Accepted echoes) =
    message_discharges id (message_of payload)
step_discharges id (steps.Control link payload)
    (replies.Rejected transaction_errors.Rollback text) =
    message_discharges id (message_of payload)
step_discharges id _ _ = false

-- the entry discharged the id, be it that it committed it or rolled it back
abbrev pub discharges : TransactionId → Entry → Bool
discharges id entry = step_discharges id entry.step entry.reply

-- the step is a frame whose transactional state has this id (4.5.6, Transactional State)
abbrev pub step_is_under : TransactionId → Step → Bool
step_is_under id (steps.Frame frame) = is_some_id id (txn frame)
step_is_under id _ = false

-- the step of the entry is a frame under the id
abbrev pub is_under : TransactionId → Entry → Bool
is_under id entry = step_is_under id entry.step

-- the number of the link that a step names, where it names one
abbrev pub step_link : Step → Option ℕ
step_link (steps.Control link payload) = Some link
step_link (steps.LinkEnd link) = Some link
step_link _ = None

-- the steps of the entries
abbrev pub steps_of : List Entry → List Step
steps_of entries = map (λ e. e.step) entries

-- the ids that the entries drew, joined
abbrev pub drawn_of : List Entry → List TransactionId
drawn_of entries = flat_map (λ (e : Entry). e.drawn.ids) entries
