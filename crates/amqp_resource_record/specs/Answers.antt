-- The replies that a step may be given after a record, by cases on the step and then on the reply.
-- Where no case stands, there is no such reply: none to a frame under an id that isn't live, and
-- none to the end of the session or of the connection. No id is drawn but for a declare.
use Rattle.std.specs.Prelude.{ℕ, ◌≡◌, ◌≤◌, Bool, true, false, Option, Some, None, List, [], ◌∷◌, ◌++◌, length}
use Rattle.std.specs.List.{list_all}
use Rattle.amqp_below_layer.specs.Windows.{WindowFits, AllWindowsFit}
use Rattle.amqp_txn_types.specs.Presumptive.{answered_under}
use Rattle.amqp_txn_types.specs.declared.id.TransactionId.{TransactionId}
use Rattle.amqp_txn_types.specs.declared.small.AmqpError.TheVariants as amqp_errors
use Rattle.amqp_txn_types.specs.declared.small.TransactionError.TheVariants as transaction_errors
use Rattle.amqp_txn_types.specs.declared.performatives.Frame.{Frame}
use Rattle.amqp_txn_types.specs.Frames.{txn, is_coordinator_attach}
use Rattle.amqp_txn_codec.specs.declared.message.ControlMessageBody.{ControlMessageBody}
use Rattle.amqp_txn_codec.specs.declared.message.ControlMessageBody.TheVariants as messages
use Rattle.amqp_txn_codec.specs.Reading.{message_of}
use Rattle.amqp_below_layer.specs.declared.answers.Answers.{Answers}
use Rattle.amqp_resource_record.specs.declared.step.Step.{Step}
use Rattle.amqp_resource_record.specs.declared.step.Step.TheVariants as steps
use Rattle.amqp_resource_record.specs.declared.reply.Reply.{Reply}
use Rattle.amqp_resource_record.specs.declared.reply.Reply.TheVariants as replies
use Rattle.amqp_resource_record.specs.declared.reply.RejectText.TheVariants as texts
use Rattle.amqp_resource_record.specs.declared.entry.Entry.{Entry}
use Rattle.amqp_resource_record.specs.Links.{is_open, attached_count}
use Rattle.amqp_resource_record.specs.Live.{is_live, is_held_on}
use Rattle.amqp_resource_record.specs.Hands.{frames_of}
use Rattle.amqp_txn_codec.specs.Discharges.{is_rollback}

-- the replies to a frame, by the id that it is under, if any:
--   a plain frame                  what the layer below gave back
--   a frame under a live id        the presumptive disposition, or nothing
--   a coordinator attach           the next link number, or a refusal
abbrev pub AnswerFrame : List Entry → Frame → Option TransactionId → Reply → Type 0
AnswerFrame entries frame None (replies.Frames answers) =
    (is_coordinator_attach frame ≡ false) × WindowFits frame answers
AnswerFrame entries frame (Some id) (replies.Frames answers) =
    (is_live entries id ≡ true)
    × (answers ≡ record { given = answered_under id frame; window = None })
AnswerFrame entries frame None (replies.Attached link given) =
    (is_coordinator_attach frame ≡ true) × (link ≡ attached_count entries)
AnswerFrame entries frame None (replies.AttachRefused error) = is_coordinator_attach frame ≡ true
AnswerFrame _ _ _ _ = ⊥

-- the replies to the end of a link, by whether it is open
abbrev pub AnswerLinkEnd : Bool → Reply → Type 0
AnswerLinkEnd true replies.LinkEnded = Unit {0}
AnswerLinkEnd false replies.NoLink = Unit {0}
AnswerLinkEnd _ _ = ⊥

-- the draws of a declare: an id that isn't live, after up to 15 that are
abbrev pub Draws : List Entry → List TransactionId → TransactionId → Type 0
Draws entries drawn id =
    (before : List TransactionId) × (drawn ≡ before ++ id ∷ []) × (length drawn ≤ 16)
    × (list_all (is_live entries) before ≡ true) × (is_live entries id ≡ false)

-- the replies to a declare, by its global id (4.2, Declaring a Transaction; 4.5.2, Declare):
--   with a global id               rejected, nothing drawn
--   without one                    the drawn id, or rejected where 16 draws are all live
abbrev pub AnswerDeclare : List Entry → Option TransactionId → List TransactionId → Reply → Type 0
AnswerDeclare entries (Some global) drawn
    (replies.Rejected transaction_errors.UnknownId texts.GlobalId) =
    drawn ≡ []
AnswerDeclare entries None drawn (replies.Declared id) = Draws entries drawn id
AnswerDeclare entries None drawn (replies.Rejected transaction_errors.UnknownId texts.IdsRepeat) =
    (length drawn ≡ 16) × (list_all (is_live entries) drawn ≡ true)
AnswerDeclare _ _ _ _ = ⊥

-- a rollback has no echoes, a commit has one for each frame of the transaction
abbrev pub Echoed : List Entry → TransactionId → Bool → List Answers → Type 0
Echoed entries id true echoes = echoes ≡ []
Echoed entries id false echoes = AllWindowsFit (frames_of entries id) echoes

-- a commit may be vetoed where the transaction has a frame
abbrev pub MayBeVetoed : List Entry → TransactionId → Bool → Type 0
MayBeVetoed entries id rollback = (rollback ≡ false) × (1 ≤ length (frames_of entries id))

-- the replies to a discharge (4.3, Discharging a Transaction; 4.5.8, Transaction Error):
--   of an id that isn't live, or has another home          rejected as unknown
--   of any other                                           accepted
--   or, where it is a commit with a frame                  rejected, and rolled back
abbrev pub AnswerDischarge : List Entry → ℕ → TransactionId → Option Bool → List TransactionId
    → Reply → Type 0
AnswerDischarge entries link id fail drawn
    (replies.Rejected transaction_errors.UnknownId texts.Absent) =
    (is_held_on entries link id ≡ false) × (drawn ≡ [])
AnswerDischarge entries link id fail drawn
    (replies.Rejected transaction_errors.Rollback texts.Absent) =
    (is_held_on entries link id ≡ true) × (drawn ≡ []) × MayBeVetoed entries id (is_rollback fail)
AnswerDischarge entries link id fail drawn (replies.Accepted echoes) =
    (is_held_on entries link id ≡ true) × (drawn ≡ []) × Echoed entries id (is_rollback fail) echoes
AnswerDischarge _ _ _ _ _ _ = ⊥

-- the replies on an open link, by the message: a payload that spells none closes the link
abbrev pub AnswerMessage : List Entry → ℕ → Option ControlMessageBody → List TransactionId → Reply
    → Type 0
AnswerMessage entries link None drawn (replies.LinkClosed amqp_errors.NotAllowed) = drawn ≡ []
AnswerMessage entries link None drawn _ = ⊥
AnswerMessage entries link (Some (messages.Declare declare)) drawn reply =
    AnswerDeclare entries declare.global_id drawn reply
AnswerMessage entries link (Some (messages.Discharge discharge)) drawn reply =
    AnswerDischarge entries link discharge.txn_id discharge.fail drawn reply

-- the replies to a control message, by whether its link is open
abbrev pub AnswerControl : List Entry → ℕ → Bool → Option ControlMessageBody → List TransactionId
    → Reply → Type 0
AnswerControl entries link false message drawn replies.NoLink = drawn ≡ []
AnswerControl entries link false message drawn _ = ⊥
AnswerControl entries link true message drawn reply = AnswerMessage entries link message drawn reply

-- answer: after the record, the step may be given this reply, having drawn these ids (4.2
-- declaring, 4.3 discharging, 4.4 transactional work)
abbrev pub Answer : List Entry → Step → List TransactionId → Reply → Type 0
Answer entries (steps.Frame frame) drawn reply =
    (drawn ≡ []) × AnswerFrame entries frame (txn frame) reply
Answer entries (steps.LinkEnd link) drawn reply =
    (drawn ≡ []) × AnswerLinkEnd (is_open entries link) reply
Answer entries (steps.Control link payload) drawn reply =
    AnswerControl entries link (is_open entries link) (message_of payload) drawn reply
Answer entries _ drawn reply = ⊥
