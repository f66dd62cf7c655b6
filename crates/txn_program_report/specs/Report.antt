-- The text of a report: the reply to each step, what stopped the run, and what was taken.
use Rattle.std.specs.Prelude.{ℕ, Bool, true, false, Option, Some, None, List, [], ◌∷◌, ◌++◌, codes, decimal}
use Rattle.std.specs.List.{flat_map}
use Rattle.hex.specs.Hex.{encode_lower}
use Rattle.amqp_txn_types.specs.declared.small.Role.{Role}
use Rattle.amqp_txn_types.specs.declared.small.Role.TheVariants as roles
use Rattle.amqp_txn_types.specs.declared.small.Handle.{Handle}
use Rattle.amqp_txn_types.specs.declared.small.TransactionError.{TransactionError}
use Rattle.amqp_txn_types.specs.declared.small.TransactionError.TheVariants as errors
use Rattle.amqp_txn_types.specs.declared.delivery.Outcome.{Outcome}
use Rattle.amqp_txn_types.specs.declared.delivery.Outcome.TheVariants as outcomes
use Rattle.amqp_txn_types.specs.declared.delivery.DeliveryState.{DeliveryState}
use Rattle.amqp_txn_types.specs.declared.delivery.DeliveryState.TheVariants as states
use Rattle.amqp_txn_types.specs.declared.performatives.Flow.{Flow}
use Rattle.amqp_txn_types.specs.declared.performatives.Disposition.{Disposition}
use Rattle.amqp_txn_types.specs.declared.performatives.Frame.{Frame}
use Rattle.amqp_txn_types.specs.declared.performatives.Frame.TheVariants as frames
use Rattle.amqp_below_layer.specs.declared.answers.Answers.{Answers}
use Rattle.amqp_resource_record.specs.declared.reply.Reply.{Reply}
use Rattle.amqp_resource_record.specs.declared.reply.Reply.TheVariants as replies
use Rattle.amqp_resource_record.specs.declared.reply.RejectText.{RejectText}
use Rattle.amqp_resource_record.specs.declared.reply.RejectText.TheVariants as texts
use Rattle.amqp_resource_record.specs.declared.entry.Entry.{Entry}
use Rattle.amqp_resource_record.specs.declared.stop.Driven.{Driven}
use Rattle.amqp_resource_record.specs.declared.stop.StopCode.{StopCode}
use Rattle.amqp_resource_record.specs.declared.stop.StopCode.TheVariants as stop_codes
use Rattle.amqp_resource_record.specs.Stops.{code_of, fault_code}

-- a line: the text and a line feed
abbrev pub line : List ℕ → List ℕ
line text = text ++ 10 ∷ []

-- words of a line, each after a space
abbrev pub spaced : List (List ℕ) → List ℕ
spaced [] = []
spaced (word ∷ words) = 32 ∷ (word ++ spaced words)

-- a number, or `-` for none
abbrev pub number_word : Option ℕ → List ℕ
number_word None = codes "-"
number_word (Some number) = decimal number

-- a handle, or `-` for none
abbrev pub handle_word : Option Handle → List ℕ
handle_word None = codes "-"
handle_word (Some handle) = decimal handle.0

-- true or false
abbrev pub bool_word : Bool → List ℕ
bool_word true = codes "true"
bool_word false = codes "false"

-- true or false, or `-` for none
abbrev pub settled_word : Option Bool → List ℕ
settled_word None = codes "-"
settled_word (Some settled) = bool_word settled

-- a role
abbrev pub role_word : Role → List ℕ
role_word roles.Sender = codes "sender"
role_word roles.Receiver = codes "receiver"

-- octets in hexadecimal digits, or `-` for none
abbrev pub payload_word : List ℕ → List ℕ
payload_word [] = codes "-"
payload_word (octet ∷ octets) = encode_lower (octet ∷ octets)

-- an outcome
abbrev pub outcome_word : Outcome → List ℕ
outcome_word outcomes.Accepted = codes "accepted"
outcome_word (outcomes.Rejected rejected) = codes "rejected"
outcome_word outcomes.Released = codes "released"
outcome_word (outcomes.Modified modified) = codes "modified"
outcome_word (outcomes.Declared declared) = codes "declared"

-- an outcome, or `-` for none
abbrev pub optional_outcome_word : Option Outcome → List ℕ
optional_outcome_word None = codes "-"
optional_outcome_word (Some outcome) = outcome_word outcome

-- a delivery state
abbrev pub state_word : DeliveryState → List ℕ
state_word (states.Received section offset) = codes "received"
state_word states.Accepted = codes "accepted"
state_word (states.Rejected rejected) = codes "rejected"
state_word states.Released = codes "released"
state_word (states.Modified modified) = codes "modified"
state_word (states.Declared declared) = codes "declared:" ++ encode_lower declared.txn_id
state_word (states.TransactionalState under) =
    codes "txn:"
    ++ (encode_lower under.txn_id ++ (codes ":" ++ optional_outcome_word under.outcome))

-- a delivery state, or `-` for none
abbrev pub optional_state_word : Option DeliveryState → List ℕ
optional_state_word None = codes "-"
optional_state_word (Some state) = state_word state

-- the words of a disposition
abbrev pub disposition_words : Disposition → List ℕ
disposition_words disposition =
    spaced (role_word disposition.role ∷ decimal disposition.first
    ∷ number_word disposition.last ∷ bool_word disposition.settled
    ∷ optional_state_word disposition.state ∷ [])

-- a frame: its name, and a word for each of its fields that is shown
unfoldable pub frame_text : Frame → List ℕ
frame_text (frames.Attach attach) =
    codes "attach"
    ++ spaced (attach.name ∷ decimal attach.handle.0 ∷ role_word attach.role ∷ [])
frame_text (frames.Flow flow) =
    codes "flow" ++ spaced (handle_word flow.handle ∷ number_word flow.link_credit ∷ [])
frame_text (frames.Transfer transfer payload) =
    codes "transfer"
    ++ spaced (decimal transfer.handle.0 ∷ number_word transfer.delivery_id
    ∷ settled_word transfer.settled ∷ optional_state_word transfer.state
    ∷ payload_word payload ∷ [])
frame_text (frames.Disposition disposition) =
    codes "disposition" ++ disposition_words disposition
frame_text (frames.Detach detach) =
    codes "detach" ++ spaced (decimal detach.handle.0 ∷ bool_word detach.closed ∷ [])

-- a condition of a transaction
abbrev pub error_word : TransactionError → List ℕ
error_word errors.UnknownId = codes "unknown-id"
error_word errors.Rollback = codes "rollback"
error_word errors.Timeout = codes "timeout"

-- what follows a rejection's condition
abbrev pub reject_words : RejectText → List ℕ
reject_words texts.Absent = []
reject_words texts.GlobalId = codes " global-id"
reject_words texts.IdsRepeat = codes " ids-repeat"

-- what stopped a run
abbrev pub stop_word : StopCode → List ℕ
stop_word stop_codes.Done = codes "done"
stop_word stop_codes.UnknownTxnId = codes "unknown-txn-id"
stop_word stop_codes.UnattachedHandle = codes "unattached-handle"
stop_word stop_codes.LinkNameNotFound = codes "link-name-not-found"
stop_word stop_codes.HandleInUse = codes "handle-in-use"
stop_word stop_codes.IllegalState = codes "illegal-state"
stop_word stop_codes.TransferToSender = codes "transfer-to-sender"
stop_word stop_codes.BelowConnectionStopped = codes "below-connection-stopped"
stop_word stop_codes.BelowRemoteEnded = codes "below-remote-ended"
stop_word stop_codes.BelowRemoteEndedWithError = codes "below-remote-ended-with-error"
stop_word stop_codes.BelowNoMemory = codes "below-no-memory"
stop_word stop_codes.Ended = codes "ended"
stop_word stop_codes.EndedWithError = codes "ended-with-error"
stop_word stop_codes.RemoteEnded = codes "remote-ended"
stop_word stop_codes.RemoteEndedWithError = codes "remote-ended-with-error"
stop_word stop_codes.ConnectionStopped = codes "connection-stopped"
stop_word stop_codes.NoMemory = codes "no-memory"

-- the reply to a step
unfoldable pub reply_text : Reply → List ℕ
reply_text (replies.Frames answers) = codes "ok"
reply_text (replies.Attached link frames) = codes "attached " ++ decimal link
reply_text (replies.AttachRefused error) = codes "attach-refused " ++ stop_word (fault_code error)
reply_text replies.LinkEnded = codes "link-ended"
reply_text replies.NoLink = codes "no-link"
reply_text (replies.LinkClosed error) = codes "link-closed not-allowed"
reply_text (replies.Declared txn_id) = codes "declared " ++ encode_lower txn_id
reply_text (replies.Accepted echoes) = codes "accepted"
reply_text (replies.Rejected error text) =
    codes "rejected " ++ (error_word error ++ reject_words text)

-- the window's flow, where it is given
abbrev pub window_frames : Option Flow → List Frame
window_frames None = []
window_frames (Some flow) = frames.Flow flow ∷ []

-- the frames of an answer: those given, then the window's flow
abbrev pub answer_frames : Answers → List Frame
answer_frames answers = answers.given ++ window_frames answers.window

-- the frames of a reply, in order
abbrev pub reply_frames : Reply → List Frame
reply_frames (replies.Frames answers) = answer_frames answers
reply_frames (replies.Attached link frames) = frames
reply_frames (replies.Accepted echoes) = flat_map answer_frames echoes
reply_frames _ = []

-- a line for a frame of a reply
abbrev pub out_line : Frame → List ℕ
out_line frame = line (codes "out " ++ frame_text frame)

-- the lines of an entry: its reply, and a line for each frame of it
abbrev pub entry_lines : Entry → List ℕ
entry_lines entry = line (reply_text entry.reply) ++ flat_map out_line (reply_frames entry.reply)

-- a line for a frame that was taken
abbrev pub taken_line : (Frame × List Frame) → List ℕ
taken_line exchange = line (codes "taken " ++ frame_text exchange.0)

-- the report of a run, and of what was taken
unfoldable pub report_text : Driven → List (Frame × List Frame) → List ℕ
report_text driven taken =
    flat_map entry_lines driven.entries
    ++ (line (codes "stop " ++ stop_word (code_of driven.stop))
    ++ (line (codes "handed " ++ decimal driven.handed)
    ++ flat_map taken_line taken))
